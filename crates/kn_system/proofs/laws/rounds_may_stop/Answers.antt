use Rattle.kn_system.proofs.Settles.{rounds-stop}
use Rattle.kn_system.proofs.laws.rounds_may_stop.Goals as goal

pub returns : goal.returns
returns c = rounds-stop
