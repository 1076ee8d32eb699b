use Rattle.std.proofs.Common.{refl}
use Rattle.std.specs.Arc.{arc_value}
use Rattle.std.proofs.lemmas.Result.{on_ok_weaker}
use Rattle.kn_session.specs.Sessions.{move_standing}
use Rattle.kn_session.proofs.Calls.{IsHere, changed_here, numbers_here, number_of_either}
use Rattle.kn_session.proofs.sessions.Sessions.move_standing.Goals as goal

pub returns-clause-ok : goal.returns-clause-ok
returns-clause-ok c =
    let h : IsHere c.self.inside.started c.self.inside.sessions.items c.args.self.now c.args.s c.in_ok-i.i
    c.index_mut-session.result.now =
    record { is = c.self.view_is; one = c.in_ok-i.ensures.place; here = c.index_mut-session.ensures.value } in
    on_ok_weaker c.move_standing.result
    (changed_here h (move_standing (arc_value c.args.snapshot)) c.move_standing.new.self) c.move_standing.ensures.ok

pub invariant_of-self : goal.invariant_of-self
invariant_of-self c =
    let h : IsHere c.self.inside.started c.self.inside.sessions.items c.args.self.now c.args.s c.in_ok-i.i
    c.index_mut-session.result.now =
    record { is = c.self.view_is; one = c.in_ok-i.ensures.place; here = c.index_mut-session.ensures.value } in
    numbers_here h c.move_standing.new.self c.self.invariant
    (number_of_either c.move_standing.result (move_standing (arc_value c.args.snapshot)) (λ x. refl)
    c.index_mut-session.result.now c.move_standing.new.self c.move_standing.ensures.ok c.move_standing.ensures.err)
