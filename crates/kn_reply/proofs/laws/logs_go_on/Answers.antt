use Rattle.kn_reply.proofs.Logs.{logs-go_on}
use Rattle.kn_reply.proofs.laws.logs_go_on.Goals as goal

pub returns : goal.returns
returns c = logs-go_on
