use Rattle.kn_answer.proofs.Removing.{removed}
use Rattle.kn_answer.proofs.laws.removed_are_worthless.Goals as goal

pub returns : goal.returns
returns c = removed
