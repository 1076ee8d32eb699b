use Rattle.kn_answer.proofs.BaseSystems.{bases-state}
use Rattle.kn_answer.proofs.laws.bases_state_queries.Goals as goal

pub returns : goal.returns
returns c = bases-state
