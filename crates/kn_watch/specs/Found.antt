-- Finding the affected principals one after another: each is flagged, and stands once in the list of those found.
use Rattle.std.specs.Prelude.{ℕ, ◌+◌, ◌*◌, ◌≡◌, ◌<◌, ◌≤◌, Bool, true, false, Some, List, [], ◌∷◌, length, replicate}
use Rattle.std.specs.Prelude.{slice_get, slice_set}
use Rattle.kn_system.specs.Equations.{SystemEquations, row_at}
use Rattle.kn_watch.specs.Affected.{is_affected, sum_over, affected_nodes, use_count, UsesPrincipal}

-- the sum over a list
abbrev pub sum_of : (ℕ → ℕ) → List ℕ → ℕ
sum_of f [] = 0
sum_of f (p ∷ ps) = f p + sum_of f ps

-- the list has those who are flagged, each once
pub record AreFound (flags : List Bool) (found : List ℕ) : Type 0 where
  pub flagged : (i p : ℕ) → slice_get found i ≡ Some p → is_affected flags p ≡ true
  pub listed : (p : ℕ) → is_affected flags p ≡ true → (i : ℕ) × (slice_get found i ≡ Some p)
  pub sums : (f : ℕ → ℕ) → sum_of f found ≡ sum_over f 0 flags

-- these flags, and besides those of a list
abbrev pub flags_with : List Bool → List ℕ → List Bool
flags_with flags [] = flags
flags_with flags (p ∷ found) = flags_with (slice_set flags p true) found

-- a flag for each principal, which says whether the list has it
abbrev pub flags_of : SystemEquations → List ℕ → List Bool
flags_of s found = flags_with (replicate (length s.requesters) false) found

-- the list has at most so many principals, each once, and not this one
pub record AreFewFound (s : SystemEquations) (without most : ℕ) (found : List ℕ) : Type 0 where
  pub each : AreFound (flags_of s found) found
  pub few : length found ≤ most
  pub lacks : is_affected (flags_of s found) without ≡ false

-- the authorizers of all rows that use the principal are affected
abbrev pub IsSpread : SystemEquations → ℕ → List Bool → Type 0
IsSpread s p flags = (r : ℕ) → r < length s.rows → UsesPrincipal (row_at s.rows r) p
    → is_affected flags (row_at s.rows r).authorizer ≡ true

-- the most steps of finding them
abbrev pub spread_ticks : SystemEquations → List Bool → ℕ → ℕ
spread_ticks s others p = use_count s p * (affected_nodes others s.rows + 1) + 1

-- the most steps of finding all
abbrev pub find_ticks : SystemEquations → List Bool → ℕ
find_ticks s others = sum_over (spread_ticks s others) 0 others
