use Rattle.kn_daemon.proofs.Meaning.{one_meant}
use Rattle.kn_daemon.proofs.laws.last_query_is_one.Goals as goal

pub returns : goal.returns
returns c = one_meant
