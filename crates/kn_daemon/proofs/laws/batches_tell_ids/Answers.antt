use Rattle.kn_daemon.proofs.Batching.{batch-tells_ids}
use Rattle.kn_daemon.proofs.laws.batches_tell_ids.Goals as goal

pub returns : goal.returns
returns c = batch-tells_ids
