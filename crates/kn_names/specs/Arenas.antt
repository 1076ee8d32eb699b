-- Names one behind another in one block of bytes.
use Rattle.std.specs.Prelude.{ℕ, ◌≡◌, ◌≤◌, List, [], ◌∷◌, slice_range}

-- the names that end at these places, the first of which begins here
abbrev pub names_from : ℕ → List ℕ → List ℕ → List (List ℕ)
names_from start [] bytes = []
names_from start (end ∷ ends) bytes = slice_range bytes start end ∷ names_from end ends bytes

-- the places ascend from one to another
abbrev pub AreEnds : ℕ → List ℕ → ℕ → Type 0
AreEnds start [] last = start ≡ last
AreEnds start (end ∷ ends) last = (start ≤ end) × AreEnds end ends last
