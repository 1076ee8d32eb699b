use Rattle.std.proofs.Common.{refl}
use Rattle.std.proofs.lemmas.Result.{on_ok_weaker}
use Rattle.kn_session.specs.Sessions.{watch_with}
use Rattle.kn_session.proofs.Calls.{IsHere, changed_here, numbers_here, number_of_either}
use Rattle.kn_session.proofs.sessions.Sessions.watch.Goals as goal

pub returns-clause-ok : goal.returns-clause-ok
returns-clause-ok c =
    let h : IsHere c.self.inside.started c.self.inside.sessions.items c.args.self.now c.args.s c.in_ok-i.i
    c.index_mut-session.result.now =
    record { is = c.self.view_is; one = c.in_ok-i.ensures.place; here = c.index_mut-session.ensures.value } in
    on_ok_weaker c.watch.result (changed_here h (watch_with c.args.values) c.watch.new.self) c.watch.ensures.ok

pub invariant_of-self : goal.invariant_of-self
invariant_of-self c =
    let h : IsHere c.self.inside.started c.self.inside.sessions.items c.args.self.now c.args.s c.in_ok-i.i
    c.index_mut-session.result.now =
    record { is = c.self.view_is; one = c.in_ok-i.ensures.place; here = c.index_mut-session.ensures.value } in
    numbers_here h c.watch.new.self c.self.invariant
    (number_of_either c.watch.result (watch_with c.args.values) (λ x. refl)
    c.index_mut-session.result.now c.watch.new.self c.watch.ensures.ok c.watch.ensures.err)
