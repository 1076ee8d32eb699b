use Rattle.kn_laws.proofs.Exists.{has_proof}
use Rattle.kn_laws.proofs.laws.every_query_has_a_proof.Goals as goal

pub returns : goal.returns
returns c = has_proof
