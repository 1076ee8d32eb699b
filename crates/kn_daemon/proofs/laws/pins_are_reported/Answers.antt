use Rattle.kn_daemon.proofs.Pinning.{pin-told, retained-pin_told}
use Rattle.kn_daemon.proofs.laws.pins_are_reported.Goals as goal

pub returns : goal.returns
returns c = record { newest = pin-told; retained = retained-pin_told }
