use Rattle.std.proofs.Common.{◌≡◌, ◌⊎◌, Some, None, IfErr, OnOk, refl, sym, subst}
use Rattle.std.proofs.lemmas.Result.{on_ok_weaker}
use Rattle.kn_session.specs.Calls.{private_fault, add_private}
use Rattle.kn_session.specs.declared.fault.SessionFault.TheVariants as F
use Rattle.kn_session.proofs.Calls.{IsHere, fault_here, changed_here, numbers_here, number_of_either}
use Rattle.kn_session.proofs.sessions.Sessions.add_private.Goals as goal

pub returns-clause-accepted : goal.returns-clause-accepted
returns-clause-accepted c =
    let h : IsHere c.self.inside.started c.self.inside.sessions.items c.args.self.now c.args.s c.in_ok-i.i
    c.index_mut-session.result.now =
    record { is = c.self.view_is; one = c.in_ok-i.ensures.place; here = c.index_mut-session.ensures.value } in
    subst (λ f. OnOk c.add_private.result (f ≡ None))
    (sym (fault_here h (private_fault c.args.text.now c.args.assertion))) c.add_private.ensures.accepted

pub returns-clause-ok : goal.returns-clause-ok
returns-clause-ok c =
    let h : IsHere c.self.inside.started c.self.inside.sessions.items c.args.self.now c.args.s c.in_ok-i.i
    c.index_mut-session.result.now =
    record { is = c.self.view_is; one = c.in_ok-i.ensures.place; here = c.index_mut-session.ensures.value } in
    on_ok_weaker c.add_private.result (changed_here h (add_private c.args.text.now) c.add_private.new.self)
    c.add_private.ensures.ok

pub returns-clause-fault : goal.returns-clause-fault
returns-clause-fault c =
    let h : IsHere c.self.inside.started c.self.inside.sessions.items c.args.self.now c.args.s c.in_ok-i.i
    c.index_mut-session.result.now =
    record { is = c.self.view_is; one = c.in_ok-i.ensures.place; here = c.index_mut-session.ensures.value } in
    subst (λ f. IfErr c.add_private.result (λ fault. (fault ≡ F.NoMemory) ⊎ (f ≡ Some fault)))
    (sym (fault_here h (private_fault c.args.text.now c.args.assertion))) c.add_private.ensures.fault

pub invariant_of-self : goal.invariant_of-self
invariant_of-self c =
    let h : IsHere c.self.inside.started c.self.inside.sessions.items c.args.self.now c.args.s c.in_ok-i.i
    c.index_mut-session.result.now =
    record { is = c.self.view_is; one = c.in_ok-i.ensures.place; here = c.index_mut-session.ensures.value } in
    numbers_here h c.add_private.new.self c.self.invariant
    (number_of_either c.add_private.result (add_private c.args.text.now) (λ x. refl) c.index_mut-session.result.now
    c.add_private.new.self c.add_private.ensures.ok c.add_private.ensures.err)
