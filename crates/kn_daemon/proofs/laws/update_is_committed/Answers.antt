use Rattle.kn_daemon.proofs.Updates.{update-committed}
use Rattle.kn_daemon.proofs.laws.update_is_committed.Goals as goal

pub returns : goal.returns
returns c = update-committed
