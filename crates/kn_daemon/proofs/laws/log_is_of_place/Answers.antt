use Rattle.kn_daemon.proofs.Logs.{log-of-place}
use Rattle.kn_daemon.proofs.laws.log_is_of_place.Goals as goal

pub returns : goal.returns
returns c = log-of-place
