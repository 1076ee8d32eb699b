use Rattle.kn_system.proofs.Settles.{keeps_levels}
use Rattle.kn_system.proofs.laws.rounds_keep_levels.Goals as goal

pub returns : goal.returns
returns c = keeps_levels
