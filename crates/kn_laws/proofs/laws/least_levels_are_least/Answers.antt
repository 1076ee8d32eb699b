use Rattle.kn_laws.proofs.Settles.{least_levels-is_least}
use Rattle.kn_laws.proofs.laws.least_levels_are_least.Goals as goal

pub returns : goal.returns
returns c = least_levels-is_least
