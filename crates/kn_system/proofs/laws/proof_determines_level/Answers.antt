use Rattle.kn_system.proofs.ProofsDetermine.{proof-determines}
use Rattle.kn_system.proofs.laws.proof_determines_level.Goals as goal

pub returns : goal.returns
returns c = proof-determines
