use Rattle.kn_daemon.proofs.QuestionRefusals.{closed-refused, names-refused, none-standing_refused}
use Rattle.kn_daemon.proofs.laws.questions_are_refused.Goals as goal

pub returns : goal.returns
returns c = record { closed = closed-refused; names = names-refused; standing = none-standing_refused }
