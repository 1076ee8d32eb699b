use Rattle.kn_daemon.proofs.FreeReplies.{unplaced-free}
use Rattle.kn_daemon.proofs.laws.unplaced_is_free.Goals as goal

pub returns : goal.returns
returns c = unplaced-free
