use Rattle.kn_reply.proofs.Logs.{logs-are_a_beginning}
use Rattle.kn_reply.proofs.laws.logs_are_a_beginning.Goals as goal

pub returns : goal.returns
returns c = logs-are_a_beginning
