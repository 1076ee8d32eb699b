use Rattle.kn_worked.proofs.AddingConnection.{bob_is_answered}
use Rattle.kn_worked.proofs.connections.addition_counts_when_pinned.Goals as goal

pub returns : goal.returns
returns c = bob_is_answered
