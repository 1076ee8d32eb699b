use Rattle.kn_worked.proofs.ReplacingConnection.{batches_are_seen}
use Rattle.kn_worked.proofs.connections.batches_are_seen.Goals as goal

pub returns : goal.returns
returns c = batches_are_seen
