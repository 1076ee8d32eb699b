use Rattle.std.proofs.Common.{◌≡◌, ℕ, Bool, not, List, position, Some, None, sym, ap, ◌∙◌, subst}
use Rattle.std.specs.Str.{bytes_eq}
use Rattle.kn_principal.specs.Principals.{normal_form}
use Rattle.kn_session.specs.declared.fault.SessionFault.TheVariants as F
use Rattle.kn_session.specs.contracts.session.OpenSession.{the_view}
use Rattle.kn_session.specs.Sessions.{Session, fault_if}
use Rattle.kn_session.specs.Calls.{unauth_fault, take_requester}
use Rattle.kn_session.specs.Views.{IsKept}
use Rattle.kn_session.proofs.Keeping.{kept_left}
use Rattle.kn_session.proofs.Taking.{IsLeft, left_at, not_left}
use Rattle.kn_session.proofs.session.OpenSession.unauth.Goals as goal

pub returns-in_default-clause-fault : goal.returns-in_default-clause-fault
returns-in_default-clause-fault c =
    let text : List ℕ = c.args.principal.now in
    let x : Session = the_view c.self.inside in
    let there : position (bytes_eq (normal_form text)) x.requesters ≡ None =
    ap (position (bytes_eq (normal_form text))) (sym c.as_slice.ensures) ∙ sym c.place_of_principal.ensures
    ∙ c.in_default.is in
    subst (λ (y : Session). unauth_fault text y ≡ Some F.Absent) c.self.view_is
    (ap (λ (b : Bool). fault_if (not b) F.Absent None) (not_left text x there))

pub invariant_of-self : goal.invariant_of-self
invariant_of-self c =
    let text : List ℕ = c.args.principal.now in
    let x : Session = the_view c.self.inside in
    let there : position (bytes_eq (normal_form text)) x.requesters ≡ Some c.in-Some.i =
    ap (position (bytes_eq (normal_form text))) (sym c.as_slice.ensures) ∙ sym c.place_of_principal.ensures
    ∙ c.in-Some.is in
    let l : IsLeft text c.in-Some.i x = left_at text c.in-Some.i x c.self.invariant.session.forms there in
    subst (λ (rs : List (List ℕ)). IsKept c.self.inside.private c.self.inside.private_bytes
    (record x { requesters = rs })) (sym c.remove-gone.ensures.rest)
    (kept_left c.self.inside.private c.self.inside.private_bytes x c.in-Some.i l.within c.self.invariant)

pub returns-clause-accepted : goal.returns-clause-accepted
returns-clause-accepted c =
    let text : List ℕ = c.args.principal.now in
    let x : Session = the_view c.self.inside in
    let there : position (bytes_eq (normal_form text)) x.requesters ≡ Some c.in-Some.i =
    ap (position (bytes_eq (normal_form text))) (sym c.as_slice.ensures) ∙ sym c.place_of_principal.ensures
    ∙ c.in-Some.is in
    let l : IsLeft text c.in-Some.i x = left_at text c.in-Some.i x c.self.invariant.session.forms there in
    subst (λ (y : Session). unauth_fault text y ≡ None) c.self.view_is
    (ap (λ (b : Bool). fault_if (not b) F.Absent None) l.named)

pub returns-clause-ok : goal.returns-clause-ok
returns-clause-ok c =
    let text : List ℕ = c.args.principal.now in
    let x : Session = the_view c.self.inside in
    let there : position (bytes_eq (normal_form text)) x.requesters ≡ Some c.in-Some.i =
    ap (position (bytes_eq (normal_form text))) (sym c.as_slice.ensures) ∙ sym c.place_of_principal.ensures
    ∙ c.in-Some.is in
    let l : IsLeft text c.in-Some.i x = left_at text c.in-Some.i x c.self.invariant.session.forms there in
    subst (λ (y : Session). record x { requesters = c.remove-gone.new.self } ≡ take_requester text y) c.self.view_is
    (ap (λ (rs : List (List ℕ)). record x { requesters = rs }) c.remove-gone.ensures.rest ∙ l.left)
