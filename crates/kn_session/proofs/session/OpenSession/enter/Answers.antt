use Rattle.std.proofs.Common.{◌≡◌, ℕ, false, List, [], ◌∷◌, ◌++◌, None, sym, ap, ◌∙◌, subst}
use Rattle.kn_principal.specs.Principals.{normal_form}
use Rattle.kn_session.specs.declared.view.Private.{Private}
use Rattle.kn_session.specs.contracts.session.OpenSession.{the_view}
use Rattle.kn_session.specs.Sessions.{Session}
use Rattle.kn_session.specs.Calls.{auth_fault, is_named}
use Rattle.kn_session.specs.Views.{IsKept}
use Rattle.kn_session.proofs.Keeping.{may_enter, kept_entered}
use Rattle.kn_session.proofs.session.OpenSession.enter.Goals as goal
use Rattle.kn_session.proofs.session.OpenSession.enter.Goals.{in-Ok, in-Err}

pub invariant_of-self : goal.invariant_of-self
invariant_of-self c =
    let text : List ℕ = c.args.principal.now in
    let ps : List Private = c.self.inside.private in
    let n : ℕ = c.self.inside.private_bytes in
    let x : Session = the_view c.self.inside in
    let absent : is_named x.requesters text ≡ false =
    subst (λ (y : Session). is_named y.requesters text ≡ false) (sym c.self.view_is) c.requires.absent in
    let accepted : auth_fault text x ≡ None =
    subst (λ (y : Session). auth_fault text y ≡ None) (sym c.self.view_is) c.requires.accepted in
    let entered : IsKept ps n (record x { requesters = x.requesters ++ normal_form text ∷ [] }) =
    kept_entered ps n x text c.self.invariant (may_enter text x accepted absent) absent in
    elim c.match-push.branch [
      | in-Ok w ↦ subst (λ (rs : List (List ℕ)). IsKept ps n (record x { requesters = rs }))
          (sym (w.in-Ok.ensures.ok ∙ ap (λ (f : List ℕ). x.requesters ++ f ∷ []) c.in_ok-form.ensures.ok)) entered
      | in-Err w ↦ subst (λ (rs : List (List ℕ)). IsKept ps n (record x { requesters = rs })) (sym w.in-Err.ensures.err)
          c.self.invariant
    ]
