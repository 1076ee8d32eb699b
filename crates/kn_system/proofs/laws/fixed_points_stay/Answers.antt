use Rattle.kn_system.proofs.Settles.{rounds-fixed}
use Rattle.kn_system.proofs.laws.fixed_points_stay.Goals as goal

pub returns : goal.returns
returns c = rounds-fixed
