-- Levels counted in a tally, and the threshold that it gives.
use Rattle.std.proofs.Common.{◌≡◌, ℕ, ◌+◌, ◌<◌, ◌≤◌, List, [], ◌∷◌, All, slice_index, refl, inl, inr, arith}
use Rattle.std.proofs.lemmas.Bool.{cases_lt}
use Rattle.std.proofs.lemmas.Bool.Decides.{nat_tests}
use Rattle.std.proofs.lemmas.List.Elements.{All-head, All-tail}
use Rattle.kn_base.specs.Threshold.{reaching, threshold}
use Rattle.kn_system.specs.Forms.{often, AreTallied}
use Rattle.kn_system.proofs.Thresholds.{threshold-ge, threshold-reached, threshold-le}

-- none reaches a level above the top
pub reaching-none : (top : ℕ) (xs : List ℕ) → All (λ level. level ≤ top) xs → reaching (top + 1) xs ≡ 0
reaching-none top [] low = refl
reaching-none top (x ∷ xs) low =
    let first : x ≤ top = All-head (λ level. level ≤ top) x xs low in
    let rest : reaching (top + 1) xs ≡ 0 = reaching-none top xs (All-tail (λ level. level ≤ top) x xs low) in
    grind (arith, nat_tests)

-- a level is reached by those that stand at it and those that stand above
pub reaching-next : (v : ℕ) (xs : List ℕ) → reaching v xs ≡ often v xs + reaching (v + 1) xs
reaching-next v [] = refl
reaching-next v (x ∷ xs) = let rest = reaching-next v xs in grind (arith, nat_tests)

-- the greatest level that enough reach is the threshold
pub threshold-is : (top need level : ℕ) (xs : List ℕ) → level ≤ top → (0 < level → need ≤ reaching level xs)
    → ((u : ℕ) → level < u → u ≤ top → reaching u xs < need) → level ≡ threshold top need xs
threshold-is top need level xs low enough few =
    let t : ℕ = threshold top need xs in
    let most : t ≤ top = threshold-le top need xs in
    let up : level ≤ t = elim (cases_lt 0 level) [
      | inl some ↦ threshold-ge top need level xs low (enough some)
      | inr none ↦ omega arith
    ] in
    let down : t ≤ level = elim (cases_lt level t) [
      | inl above ↦
          let too_few : reaching t xs < need = few t above most in
          let reached : need ≤ reaching t xs = threshold-reached top need t xs (omega arith) (omega arith) in
          absurd (omega arith)
      | inr below ↦ below
    ] in
    omega arith

-- so many more reach a level than the next as the tally says
pub reaching-at : (tally : List ℕ) (level above : ℕ) (xs : List ℕ) → level < 64 → AreTallied tally xs
    → above ≡ reaching (level + 1) xs → above + slice_index tally level ≡ reaching level xs
reaching-at tally level above xs fits tallied e = omega (arith, tallied level fits, reaching-next level xs)
