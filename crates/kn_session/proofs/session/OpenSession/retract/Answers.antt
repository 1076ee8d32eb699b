use Rattle.std.proofs.Common.{◌≡◌, ◌==◌, ◌-◌, List, map, position, Some, None, refl, sym, ap, ◌∙◌, subst, arith}
use Rattle.kn_session.specs.declared.fault.SessionFault.TheVariants as F
use Rattle.kn_session.specs.declared.view.Private.{Private}
use Rattle.kn_session.specs.contracts.session.OpenSession.{the_view}
use Rattle.kn_session.specs.Sessions.{Session}
use Rattle.kn_session.specs.Calls.{retract_fault, take_private}
use Rattle.kn_session.specs.Views.{numbered_text, IsKept}
use Rattle.kn_session.proofs.Keeping.{AreCounted, counted_at, kept_taken}
use Rattle.kn_session.proofs.Taking.{IsTaken, taken_at, not_taken}
use Rattle.kn_session.proofs.session.OpenSession.retract.Goals as goal

pub returns-in_default-clause-fault : goal.returns-in_default-clause-fault
returns-in_default-clause-fault c =
    let ps : List Private = c.self.inside.private in
    let x : Session = the_view c.self.inside in
    let there : position (λ (p : Private). p.id == c.args.id) ps ≡ None =
    ap (position (λ (p : Private). p.id == c.args.id)) (sym c.as_slice.ensures) ∙ sym c.place_of_id.ensures
    ∙ c.in_default.is in
    subst (λ (y : Session). retract_fault c.args.id y ≡ Some (F.NoSuch c.args.id)) c.self.view_is
    (not_taken c.args.id ps x refl there)

pub overflow_cast-self : goal.overflow_cast-self
overflow_cast-self c =
    let counted : AreCounted c.self.inside.private_bytes c.remove_private-bytes.result =
    counted_at c.self.inside.private c.self.inside.private_bytes (the_view c.self.inside) c.in-Some.i
    c.remove_private-bytes.result c.remove_private-bytes.ensures.bytes c.self.invariant refl in
    omega (arith, counted.most, counted.short)

pub overflow_sub-self : goal.overflow_sub-self
overflow_sub-self c =
    let counted : AreCounted c.self.inside.private_bytes c.remove_private-bytes.result =
    counted_at c.self.inside.private c.self.inside.private_bytes (the_view c.self.inside) c.in-Some.i
    c.remove_private-bytes.result c.remove_private-bytes.ensures.bytes c.self.invariant refl in
    omega (arith, counted.most)

pub invariant_of-self : goal.invariant_of-self
invariant_of-self c =
    let ps : List Private = c.self.inside.private in
    let x : Session = the_view c.self.inside in
    let there : position (λ (p : Private). p.id == c.args.id) ps ≡ Some c.in-Some.i =
    ap (position (λ (p : Private). p.id == c.args.id)) (sym c.as_slice.ensures) ∙ sym c.place_of_id.ensures
    ∙ c.in-Some.is in
    let t : IsTaken c.args.id ps c.in-Some.i x =
    taken_at c.args.id ps c.in-Some.i c.self.inside.private_bytes x c.self.invariant refl there in
    let n = c.self.inside.private_bytes in
    let b = c.remove_private-bytes.result in
    subst (λ (qs : List Private). IsKept qs (n - b) (record x { privates = map numbered_text qs }))
    (sym c.remove_private-bytes.ensures.rest)
    (kept_taken ps n x c.in-Some.i b t.within c.remove_private-bytes.ensures.bytes c.self.invariant refl)

pub returns-clause-accepted : goal.returns-clause-accepted
returns-clause-accepted c =
    let ps : List Private = c.self.inside.private in
    let x : Session = the_view c.self.inside in
    let there : position (λ (p : Private). p.id == c.args.id) ps ≡ Some c.in-Some.i =
    ap (position (λ (p : Private). p.id == c.args.id)) (sym c.as_slice.ensures) ∙ sym c.place_of_id.ensures
    ∙ c.in-Some.is in
    let t : IsTaken c.args.id ps c.in-Some.i x =
    taken_at c.args.id ps c.in-Some.i c.self.inside.private_bytes x c.self.invariant refl there in
    subst (λ (y : Session). retract_fault c.args.id y ≡ None) c.self.view_is t.accepted

pub returns-clause-ok : goal.returns-clause-ok
returns-clause-ok c =
    let ps : List Private = c.self.inside.private in
    let x : Session = the_view c.self.inside in
    let there : position (λ (p : Private). p.id == c.args.id) ps ≡ Some c.in-Some.i =
    ap (position (λ (p : Private). p.id == c.args.id)) (sym c.as_slice.ensures) ∙ sym c.place_of_id.ensures
    ∙ c.in-Some.is in
    let t : IsTaken c.args.id ps c.in-Some.i x =
    taken_at c.args.id ps c.in-Some.i c.self.inside.private_bytes x c.self.invariant refl there in
    subst (λ (y : Session). record x { privates = map numbered_text c.remove_private-bytes.new.privates }
    ≡ take_private c.args.id y) c.self.view_is
    (t.taken c.remove_private-bytes.new.privates c.remove_private-bytes.ensures.rest)
