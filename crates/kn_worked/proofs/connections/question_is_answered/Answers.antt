use Rattle.kn_worked.proofs.Asking.{alice_is_answered}
use Rattle.kn_worked.proofs.NothingElse.{alice_is_answered_so}
use Rattle.kn_worked.proofs.connections.question_is_answered.Goals as goal

pub returns-clause-some : goal.returns-clause-some
returns-clause-some c = alice_is_answered

pub returns-clause-one : goal.returns-clause-one
returns-clause-one c = alice_is_answered_so
