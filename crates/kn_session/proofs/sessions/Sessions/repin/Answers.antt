use Rattle.std.proofs.Common.{None, ap}
use Rattle.std.specs.Arc.{arc_value}
use Rattle.kn_session.specs.Sessions.{Session, pin_at}
use Rattle.kn_session.proofs.Calls.{IsHere, fault_here, changed_here, numbers_here}
use Rattle.kn_session.proofs.sessions.Sessions.repin.Goals as goal

pub returns-clause-accepted : goal.returns-clause-accepted
returns-clause-accepted c =
    let h : IsHere c.self.inside.started c.self.inside.sessions.items c.args.self.now c.args.s c.in_ok-i.i
    c.index_mut-session.result.now =
    record { is = c.self.view_is; one = c.in_ok-i.ensures.place; here = c.index_mut-session.ensures.value } in
    fault_here h (λ x. None)

pub returns-clause-ok : goal.returns-clause-ok
returns-clause-ok c =
    let h : IsHere c.self.inside.started c.self.inside.sessions.items c.args.self.now c.args.s c.in_ok-i.i
    c.index_mut-session.result.now =
    record { is = c.self.view_is; one = c.in_ok-i.ensures.place; here = c.index_mut-session.ensures.value } in
    changed_here h (pin_at (arc_value c.args.snapshot)) c.pin.new.self c.pin.ensures

pub invariant_of-self : goal.invariant_of-self
invariant_of-self c =
    let h : IsHere c.self.inside.started c.self.inside.sessions.items c.args.self.now c.args.s c.in_ok-i.i
    c.index_mut-session.result.now =
    record { is = c.self.view_is; one = c.in_ok-i.ensures.place; here = c.index_mut-session.ensures.value } in
    numbers_here h c.pin.new.self c.self.invariant (ap (λ (x : Session). x.number) c.pin.ensures)
