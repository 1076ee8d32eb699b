-- Thresholds: which levels they reach.
use Rattle.std.proofs.Common.{◌≡◌, ℕ, suc, zero, ◌<◌, ◌≤◌, Bool, true, false, List, [], ◌∷◌, cond, refl, sym, ap, ◌∙◌}
use Rattle.std.proofs.Common.{inl, inr, arith}
use Rattle.std.proofs.lemmas.Bool.Decides.{nat_tests}
use Rattle.std.proofs.lemmas.Bool.{le-leb, leb-true, cases_lt, false≢true}
use Rattle.kn_base.specs.Threshold.{greatest, reaching, is_reached, threshold}

-- the greatest number up to n that passes is at most n
greatest-le : (n : ℕ) (p : ℕ → Bool) → greatest n p ≤ n
greatest-le zero p = omega arith
greatest-le (suc n) p =
    let below = greatest-le n p in
    elim (p (suc n)) as (λ b. cond b (suc n) (greatest n p) ≤ suc n) [ true ↦ omega arith | false ↦ omega arith ]

passes_at : (n : ℕ) (p : ℕ → Bool) (b : Bool) → p (suc n) ≡ b → (0 < greatest n p → p (greatest n p) ≡ true)
    → 0 < cond b (suc n) (greatest n p) → p (cond b (suc n) (greatest n p)) ≡ true
passes_at n p true e below h = e
passes_at n p false e below h = below h

-- it passes, where it is above 0
greatest-passes : (n : ℕ) (p : ℕ → Bool) → 0 < greatest n p → p (greatest n p) ≡ true
greatest-passes zero p h = absurd (omega arith)
greatest-passes (suc n) p h = passes_at n p (p (suc n)) refl (greatest-passes n p) h

ge_at : (n : ℕ) (p : ℕ → Bool) (u : ℕ) (b : Bool) → p (suc n) ≡ b → (u ≤ n → u ≤ greatest n p) → u ≤ suc n → p u ≡ true
    → u ≤ cond b (suc n) (greatest n p)
ge_at n p u true e below l h = l
ge_at n p u false e below l h =
    elim (cases_lt n u) [
      | inl above ↦ let same : u ≡ suc n = omega arith in absurd (false≢true (sym e ∙ ap p (sym same) ∙ h))
      | inr within ↦ below within
    ]

-- and no number up to n that passes is above it
greatest-ge : (n : ℕ) (p : ℕ → Bool) (u : ℕ) → u ≤ n → p u ≡ true → u ≤ greatest n p
greatest-ge zero p u l e = l
greatest-ge (suc n) p u l e = ge_at n p u (p (suc n)) refl (λ l'. greatest-ge n p u l' e) l e

-- fewer reach a higher level
reaching-higher : (u v : ℕ) → u ≤ v → (xs : List ℕ) → reaching v xs ≤ reaching u xs
reaching-higher u v l [] = omega arith
reaching-higher u v l (x ∷ xs) = let rest = reaching-higher u v l xs in grind (arith, nat_tests)

-- a level above 0 that enough reach is at most the threshold
threshold-ge : (top k u : ℕ) (xs : List ℕ) → u ≤ top → k ≤ reaching u xs → u ≤ threshold top k xs
threshold-ge top k u xs l h = greatest-ge top (is_reached k xs) u l (le-leb k (reaching u xs) h)

-- enough reach each level above 0 that is at most the threshold
threshold-reached : (top k u : ℕ) (xs : List ℕ) → 0 < u → u ≤ threshold top k xs → k ≤ reaching u xs
threshold-reached top k u xs h l =
    let t : ℕ = threshold top k xs in
    let reached : k ≤ reaching t xs =
    leb-true k (reaching t xs) (greatest-passes top (is_reached k xs) (omega arith)) in
    let fewer : reaching t xs ≤ reaching u xs = reaching-higher u t l xs in
    omega arith

-- no threshold is above the top
pub threshold-le : (top k : ℕ) (xs : List ℕ) → threshold top k xs ≤ top
threshold-le top k xs = greatest-le top (is_reached k xs)

-- where as many reach a level above 0 in the second, a threshold that reaches it does so there
pub threshold-carried : (top k u : ℕ) → 0 < u → (xs ys : List ℕ) → reaching u xs ≤ reaching u ys
    → u ≤ threshold top k xs → u ≤ threshold top k ys
threshold-carried top k u h xs ys as_many l =
    let reached : k ≤ reaching u xs = threshold-reached top k u xs h l in
    let low : threshold top k xs ≤ top = threshold-le top k xs in
    threshold-ge top k u ys (omega arith) (omega arith)
