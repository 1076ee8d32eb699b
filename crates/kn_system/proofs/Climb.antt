-- The cut: where those that have u in the first levels have it in the second, each formula that reaches u does so
-- there.
use Rattle.std.proofs.Common.{◌≡◌, ℕ, suc, zero, ◌+◌, ◌<◌, ◌≤◌, List, [], ◌∷◌, slice_index, take, drop, inl, inr, arith}
use Rattle.std.proofs.lemmas.Bool.{cases_lt}
use Rattle.std.proofs.lemmas.List.{get_or-take, get_or-drop, get_or_past, length-take}
use Rattle.kn_base.specs.Threshold.{threshold}
use Rattle.kn_system.specs.declared.rows.Piece.{Piece}
use Rattle.kn_system.specs.declared.rows.Piece.TheVariants.{Who, Gate}
use Rattle.kn_system.specs.Form.{form_levels}
use Rattle.kn_system.specs.Order.{Carries}
use Rattle.kn_system.proofs.Thresholds.{threshold-carried, threshold-le}

pub Carries-cons : (u x y : ℕ) (xs ys : List ℕ) → (u ≤ x → u ≤ y) → Carries u xs ys → (i : ℕ)
    → u ≤ slice_index (x ∷ xs) i → u ≤ slice_index (y ∷ ys) i
Carries-cons u x y xs ys first rest zero l = first l
Carries-cons u x y xs ys first rest (suc i) l = rest i l

Carries-take : (u n : ℕ) (xs ys : List ℕ) → 0 < u → Carries u xs ys → Carries u (take n xs) (take n ys)
Carries-take u n xs ys h c = λ i l.
    elim (cases_lt i n) [
      | inl within ↦ rw get_or-take (c i (rw get_or-take at l))
      | inr past ↦
          let none : slice_index (take n xs) i ≡ 0 = get_or_past (take n xs) i 0 (omega (arith, length-take n xs)) in
          absurd (omega arith)
    ]

Carries-drop : (u n : ℕ) (xs ys : List ℕ) → Carries u xs ys → Carries u (drop n xs) (drop n ys)
Carries-drop u n xs ys c = λ i l. rw get_or-drop (c (n + i) (rw get_or-drop at l))

pub form_levels-carried : (u top : ℕ) (xs ys : List ℕ) → 0 < u → Carries u xs ys → (ps : List Piece)
    → Carries u (form_levels top xs ps) (form_levels top ys ps)
form_levels-carried u top xs ys h c [] = λ i l. l
form_levels-carried u top xs ys h c (Who p ∷ ps) =
    let rest = form_levels-carried u top xs ys h c ps in
    Carries-cons u (slice_index xs p) (slice_index ys p) (form_levels top xs ps) (form_levels top ys ps) (c p) rest
form_levels-carried u top xs ys h c (Gate k n ∷ ps) =
    let before : List ℕ = form_levels top xs ps in
    let after : List ℕ = form_levels top ys ps in
    let rest : Carries u before after = form_levels-carried u top xs ys h c ps in
    Carries-cons u (threshold top k (take n before)) (threshold top k (take n after)) (drop n before) (drop n after)
    (threshold-carried top k u h (take n before) (take n after) (Carries-take u n before after h rest))
    (Carries-drop u n before after rest)

le-cons : (top x : ℕ) (xs : List ℕ) → x ≤ top → ((i : ℕ) → slice_index xs i ≤ top) → (i : ℕ)
    → slice_index (x ∷ xs) i ≤ top
le-cons top x xs first rest zero = first
le-cons top x xs first rest (suc i) = rest i

-- where no level is above the top, no formula's is
pub form_levels-le : (top : ℕ) (xs : List ℕ) → ((i : ℕ) → slice_index xs i ≤ top) → (ps : List Piece) (i : ℕ)
    → slice_index (form_levels top xs ps) i ≤ top
form_levels-le top xs low [] i = omega arith
form_levels-le top xs low (Who p ∷ ps) i =
    le-cons top (slice_index xs p) (form_levels top xs ps) (low p) (form_levels-le top xs low ps) i
form_levels-le top xs low (Gate k n ∷ ps) i =
    let behind : List ℕ = form_levels top xs ps in
    let rest : (j : ℕ) → slice_index behind j ≤ top = form_levels-le top xs low ps in
    le-cons top (threshold top k (take n behind)) (drop n behind) (threshold-le top k (take n behind))
    (λ j. rw get_or-drop (rest (n + j))) i
