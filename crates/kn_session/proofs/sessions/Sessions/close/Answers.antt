use Rattle.std.proofs.Common.{◌<◌, length, sym, subst}
use Rattle.kn_session.specs.Sessions.{OpenSessions}
use Rattle.kn_session.specs.Connection.{AreOpen}
use Rattle.kn_session.proofs.Calls.{numbers_fewer}
use Rattle.kn_session.proofs.sessions.Sessions.close.Goals as goal

pub invariant_of-self : goal.invariant_of-self
invariant_of-self c =
    let within : c.in_ok-i.i < length c.self.inside.sessions.items =
    subst (λ (t : OpenSessions). c.in_ok-i.i < length t.sessions) (sym c.self.view_is)
    c.in_ok-i.ensures.place.within in
    subst (AreOpen c.self.inside.started) (sym c.remove-closed.ensures.items)
    (numbers_fewer c.self.inside.started c.self.inside.sessions.items c.in_ok-i.i within c.self.invariant)
