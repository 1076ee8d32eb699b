use Rattle.kn_daemon.proofs.FreeReplies.{fewer-takes_no_memory}
use Rattle.kn_daemon.proofs.laws.fewer_takes_no_memory.Goals as goal

pub returns : goal.returns
returns c = fewer-takes_no_memory
