use Rattle.kn_system.proofs.Settles.{rounds_at_first-below}
use Rattle.kn_system.proofs.laws.rounds_stay_below.Goals as goal

pub returns : goal.returns
returns c = rounds_at_first-below
