use Rattle.kn_laws.proofs.Proven.{proof-determines}
use Rattle.kn_laws.proofs.laws.proof_determines_level.Goals as goal

pub returns : goal.returns
returns c = proof-determines
