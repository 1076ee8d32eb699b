use Rattle.kn_follow.proofs.Endings.{some-ending, one-ending}
use Rattle.kn_follow.proofs.laws.one_ending.Goals as goal

pub returns-clause-some : goal.returns-clause-some
returns-clause-some c = some-ending

pub returns-clause-no_other : goal.returns-clause-no_other
returns-clause-no_other c = one-ending
