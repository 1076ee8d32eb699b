use Rattle.kn_system.proofs.Exists.{proof-exists}
use Rattle.kn_system.proofs.laws.proof_exists.Goals as goal

pub returns : goal.returns
returns c = proof-exists
