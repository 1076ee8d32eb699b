-- Ids that ascend: they are above what is lower, and no two are one.
use Rattle.std.proofs.Common.{◌≡◌, ℕ, zero, suc, ◌<◌, ◌≤◌, List, [], ◌∷◌, refl, ap, arith}
use Rattle.std.specs.Prelude.{map, slice_get, Some}
use Rattle.std.proofs.lemmas.Option.{same_Some}
use Rattle.kn_history.specs.History.{NumberedText}
use Rattle.kn_history.specs.Ids.{IdsAscend}

pub ascend-weaker : (low above : ℕ) (xs : List NumberedText) → low ≤ above → IdsAscend above xs → IdsAscend low xs
ascend-weaker low above [] le h = tt
ascend-weaker low above (x ∷ xs) le h = (omega arith, h.1)

above_low : (low : ℕ) (credentials : List NumberedText) (p id : ℕ) → IdsAscend low credentials
    → slice_get (map (λ c. c.id) credentials) p ≡ Some id → low < id
above_low low [] p id h there = cc
above_low low (c ∷ credentials) zero id h there = let same : c.id ≡ id = same_Some c.id id there in let first = h.0 in
    omega arith
above_low low (c ∷ credentials) (suc p) id h there = let above = above_low c.id credentials p id h.1 there in
    let first = h.0 in omega arith

pub ids_differ : (low : ℕ) (credentials : List NumberedText) → IdsAscend low credentials → (p q id : ℕ)
    → slice_get (map (λ c. c.id) credentials) p ≡ Some id → slice_get (map (λ c. c.id) credentials) q ≡ Some id → p ≡ q
ids_differ low [] h p q id one two = cc
ids_differ low (c ∷ credentials) h zero zero id one two = refl
ids_differ low (c ∷ credentials) h zero (suc q) id one two =
    let same : c.id ≡ id = same_Some c.id id one in let above = above_low c.id credentials q id h.1 two in
    absurd (omega arith)
ids_differ low (c ∷ credentials) h (suc p) zero id one two =
    let same : c.id ≡ id = same_Some c.id id two in let above = above_low c.id credentials p id h.1 one in
    absurd (omega arith)
ids_differ low (c ∷ credentials) h (suc p) (suc q) id one two =
    ap (λ n. suc n) (ids_differ c.id credentials h.1 p q id one two)
