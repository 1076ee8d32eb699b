use Rattle.std.proofs.Common.{◌≡◌, None, IfErr, OnOk, sym, subst}
use Rattle.std.proofs.lemmas.Result.{on_ok_weaker}
use Rattle.kn_session.specs.Calls.{call_of, session_fault, call_change, call_may_lack_memory, IsDue}
use Rattle.kn_session.proofs.Calls.{IsHere, fault_here, changed_here, numbers_here, number_of_either, number_of_change}
use Rattle.kn_session.proofs.Calls.{due-of}
use Rattle.kn_session.proofs.sessions.Sessions.change.Goals as goal

pub returns-in-Ok-clause-accepted : goal.returns-in-Ok-clause-accepted
returns-in-Ok-clause-accepted c =
    let h : IsHere c.self.inside.started c.self.inside.sessions.items c.args.self.now c.args.s c.in-Ok.i
    c.index_mut-session.result.now =
    record { is = c.self.view_is; one = c.in-Ok.ensures.place; here = c.index_mut-session.ensures.value } in
    subst (λ f. OnOk c.change.result (f ≡ None)) (sym (fault_here h (session_fault (call_of c.args.call))))
    c.change.ensures.accepted

pub returns-in-Ok-clause-ok : goal.returns-in-Ok-clause-ok
returns-in-Ok-clause-ok c =
    let h : IsHere c.self.inside.started c.self.inside.sessions.items c.args.self.now c.args.s c.in-Ok.i
    c.index_mut-session.result.now =
    record { is = c.self.view_is; one = c.in-Ok.ensures.place; here = c.index_mut-session.ensures.value } in
    on_ok_weaker c.change.result (changed_here h (call_change (call_of c.args.call)) c.change.new.self)
    c.change.ensures.ok

pub returns-in-Ok-clause-fault : goal.returns-in-Ok-clause-fault
returns-in-Ok-clause-fault c =
    let h : IsHere c.self.inside.started c.self.inside.sessions.items c.args.self.now c.args.s c.in-Ok.i
    c.index_mut-session.result.now =
    record { is = c.self.view_is; one = c.in-Ok.ensures.place; here = c.index_mut-session.ensures.value } in
    subst (λ f. IfErr c.change.result (IsDue (call_may_lack_memory (call_of c.args.call)) f))
    (sym (fault_here h (session_fault (call_of c.args.call)))) c.change.ensures.fault

pub returns-in-Err-clause-fault : goal.returns-in-Err-clause-fault
returns-in-Err-clause-fault c =
    due-of (call_may_lack_memory (call_of c.args.call)) _ _
    (c.in-Err.ensures.fault (session_fault (call_of c.args.call)))

pub invariant_of-self : goal.invariant_of-self
invariant_of-self c =
    let h : IsHere c.self.inside.started c.self.inside.sessions.items c.args.self.now c.args.s c.in-Ok.i
    c.index_mut-session.result.now =
    record { is = c.self.view_is; one = c.in-Ok.ensures.place; here = c.index_mut-session.ensures.value } in
    numbers_here h c.change.new.self c.self.invariant
    (number_of_either c.change.result (call_change (call_of c.args.call)) (number_of_change (call_of c.args.call))
    c.index_mut-session.result.now c.change.new.self c.change.ensures.ok c.change.ensures.err)
