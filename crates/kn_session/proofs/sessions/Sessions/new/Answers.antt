use Rattle.kn_session.proofs.Calls.{numbers_none}
use Rattle.kn_session.proofs.sessions.Sessions.new.Goals as goal

pub invariant_of-result : goal.invariant_of-result
invariant_of-result c = rw c.new.ensures.items numbers_none
