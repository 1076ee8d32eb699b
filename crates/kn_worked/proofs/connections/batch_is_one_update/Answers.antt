use Rattle.kn_worked.proofs.Batches.{batch_is_refused, batch_is_made}
use Rattle.kn_worked.proofs.connections.batch_is_one_update.Goals as goal

pub returns-clause-refused : goal.returns-clause-refused
returns-clause-refused c = batch_is_refused

pub returns-clause-made : goal.returns-clause-made
returns-clause-made c = batch_is_made
