use Rattle.kn_daemon.proofs.LevelReplies.{critical-one}
use Rattle.kn_daemon.proofs.QuestionRefusals.{critical-small, critical-large}
use Rattle.kn_daemon.proofs.laws.critical_is_one.Goals as goal

pub returns : goal.returns
returns c = record { one = critical-one; small = critical-small; large = critical-large }
