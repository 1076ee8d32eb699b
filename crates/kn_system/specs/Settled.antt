-- Settling principals from the highest level down (keynoted's own): what stands when those above a level are settled.
use Rattle.std.specs.Prelude.{ℕ, suc, zero, ◌-◌, ◌≡◌, ◌<◌, ◌≤◌, List, [], ◌∷◌, All, length, slice_index}
use Rattle.kn_proof.specs.declared.row.Row.{Row as ProofRow}
use Rattle.kn_system.specs.Equations.{SystemEquations, row_at}
use Rattle.kn_system.specs.Least.{worth, at_first}
use Rattle.kn_system.specs.Proofs.{levels_after, AreSteps}

-- each level above v that a row is worth, its authorizer has
abbrev pub IsClosedAbove : SystemEquations → ℕ → List ℕ → Type 0
IsClosedAbove s v levels =
    (i : ℕ) → i < length s.rows → (u : ℕ) → v < u
    → u ≤ worth (s.levels - 1) levels (row_at s.rows i) → u ≤ slice_index levels (row_at s.rows i).authorizer

-- who has a level above the lowest has v or more
abbrev pub AreAbove : ℕ → List ℕ → Type 0
AreAbove v levels = (i : ℕ) → 0 < slice_index levels i → v ≤ slice_index levels i

-- all levels above v are settled, v itself may be in part, and the rows prove the levels so far
pub record IsSettled (s : SystemEquations) (v : ℕ) (levels : List ℕ) (rows : List ProofRow) : Type 0 where
  pub after : levels ≡ levels_after (at_first s) rows
  pub steps : AreSteps s (at_first s) rows
  pub size : length levels ≡ length s.requesters
  pub low : All (λ level. level < s.levels) levels
  pub closed : IsClosedAbove s v levels
  pub above : AreAbove v levels

-- this row gives its authorizer, who has no level yet, the level v
pub record IsGrant (s : SystemEquations) (v : ℕ) (levels : List ℕ) (i : ℕ) : Type 0 where
  pub named : i < length s.rows
  pub fresh : slice_index levels (row_at s.rows i).authorizer ≡ 0
  pub supported : v ≤ worth (s.levels - 1) levels (row_at s.rows i)

-- this row doesn't give the level v to an authorizer without a level
abbrev pub GivesNothing : SystemEquations → ℕ → List ℕ → ℕ → Type 0
GivesNothing s v levels i = slice_index levels (row_at s.rows i).authorizer ≡ 0
    → worth (s.levels - 1) levels (row_at s.rows i) < v

-- nor does any row before n
abbrev pub HasNoneBefore : SystemEquations → ℕ → List ℕ → ℕ → Type 0
HasNoneBefore s v levels n = (i : ℕ) → i < n → GivesNothing s v levels i

-- how many have no level above the lowest
abbrev pub count_unsettled : List ℕ → ℕ
count_unsettled [] = 0
count_unsettled (zero ∷ levels) = suc (count_unsettled levels)
count_unsettled (suc level ∷ levels) = count_unsettled levels
