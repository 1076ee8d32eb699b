use Rattle.std.proofs.Common.{◌≡◌, ◌++◌, ◌∷◌, [], ℕ, suc, ◌+◌, List, drop, take, Some, sym, ap, subst, ◌∙◌, arith}
use Rattle.std.proofs.Common.{append_assoc}
use Rattle.std.specs.Prelude.{slice_get}
use Rattle.kn_history.specs.History.{NumberedText, credentials_of}
use Rattle.kn_history.specs.Ids.{IdsAscend}
use Rattle.kn_query.proofs.Rows.{more-from, next-ascends, pair-at}
use Rattle.kn_query.proofs.shared_rows.SharedRows.push_from.Goals as goal

pub push-requires : goal.push-requires
push-requires c =
    let live : List NumberedText = credentials_of c.args.version.now in
    let place : ℕ = c.loop-place.place in
    let row : NumberedText = c.of.result in
    let here : slice_get live place ≡ Some row =
    pair-at live place row (c.id.ensures.id ∙ ap (λ (n : ℕ). Some n) (sym c.of.ensures.id))
    (c.in_ok-credential.ensures.text ∙ ap (λ (t : List ℕ). Some t) (sym c.of.ensures.text)) in
    subst (λ (l : List NumberedText). IdsAscend 0 (l ++ row ∷ [])) (sym c.loop-place.invariant)
    (next-ascends c.args.self.now live c.args.first place row (omega arith) here c.requires.ids)

pub loop-place-preserved : goal.loop-place-preserved
loop-place-preserved c =
    let live : List NumberedText = credentials_of c.args.version.now in
    let old : List NumberedText = c.args.self.now in
    let first : ℕ = c.args.first in
    let place : ℕ = c.loop-place.place in
    let row : NumberedText = c.of.result in
    let next : suc place ≡ place + 1 = omega arith in
    let here : slice_get live place ≡ Some row =
    pair-at live place row (c.id.ensures.id ∙ ap (λ (n : ℕ). Some n) (sym c.of.ensures.id))
    (c.in_ok-credential.ensures.text ∙ ap (λ (t : List ℕ). Some t) (sym c.of.ensures.text)) in
    c.in_ok-push.ensures
    ∙ ap (λ (l : List NumberedText). l ++ row ∷ []) c.loop-place.invariant
    ∙ append_assoc old (drop first (take place live)) (row ∷ [])
    ∙ ap (λ (l : List NumberedText). old ++ l) (sym (more-from live first place row (omega arith) here))
    ∙ ap (λ (n : ℕ). old ++ drop first (take n live)) next
