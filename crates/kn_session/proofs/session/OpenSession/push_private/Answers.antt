use Rattle.std.proofs.Common.{◌≡◌, ℕ, ◌+◌, List, [], ◌∷◌, ◌++◌, length, map, None, refl, sym, subst}
use Rattle.kn_session.specs.declared.view.Private.{Private}
use Rattle.kn_session.specs.contracts.session.OpenSession.{the_view}
use Rattle.kn_session.specs.Sessions.{Session}
use Rattle.kn_session.specs.Calls.{private_fault}
use Rattle.kn_session.specs.Views.{numbered_text, IsReadPrivate, IsKept}
use Rattle.kn_session.proofs.Keeping.{HasRoom, room_for_private, kept_added}
use Rattle.kn_session.proofs.session.OpenSession.push_private.Goals as goal

pub invariant_of-self-2 : goal.invariant_of-self-2
invariant_of-self-2 c =
    let ps : List Private = c.self.inside.private in
    let n : ℕ = c.self.inside.private_bytes in
    let x : Session = the_view c.self.inside in
    let p : Private = record { id = c.self.inside.made + 1; text = c.in-Ok.octets; assertion = c.args.assertion } in
    let text : c.in-Ok.octets ≡ c.args.text.now = c.in-Ok.ensures in
    let accepted : private_fault c.args.text.now c.args.assertion x ≡ None =
    subst (λ (y : Session). private_fault c.args.text.now c.args.assertion y ≡ None) (sym c.self.view_is)
    c.requires.accepted in
    let room : HasRoom p.text x =
    subst (λ (t : List ℕ). HasRoom t x) (sym text) (room_for_private c.args.text.now c.args.assertion x accepted) in
    let reading : IsReadPrivate p = rw text c.requires.reading in
    let kept : IsKept (ps ++ p ∷ []) (n + length c.in-Ok.octets)
    (record x { privates = map numbered_text (ps ++ p ∷ []); made = x.made + 1 }) =
    kept_added ps n x p c.self.invariant refl refl reading room in
    subst (λ (qs : List Private). IsKept qs (n + length c.args.text.now)
    (record x { privates = map numbered_text qs; made = x.made + 1 })) (sym c.in-Ok-push.ensures.ok)
    (subst (λ (t : List ℕ). IsKept (ps ++ p ∷ []) (n + length t)
    (record x { privates = map numbered_text (ps ++ p ∷ []); made = x.made + 1 })) text kept)
