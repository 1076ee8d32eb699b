-- Orders between lists of levels.
use Rattle.std.specs.Prelude.{ℕ, ◌≤◌, List, slice_index}

-- no level of the first is above that of the second
abbrev pub Below : List ℕ → List ℕ → Type 0
Below xs ys = (i : ℕ) → slice_index xs i ≤ slice_index ys i

-- who has u in the first has it in the second
abbrev pub Carries : ℕ → List ℕ → List ℕ → Type 0
Carries u xs ys = (i : ℕ) → u ≤ slice_index xs i → u ≤ slice_index ys i
