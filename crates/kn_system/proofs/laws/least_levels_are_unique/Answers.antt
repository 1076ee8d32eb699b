use Rattle.kn_system.proofs.Settles.{unique_least}
use Rattle.kn_system.proofs.laws.least_levels_are_unique.Goals as goal

pub returns : goal.returns
returns c = unique_least
