-- Counts over the views of a turn's seats.
use Rattle.std.specs.Prelude.{ℕ, ◌+◌, List, [], ◌∷◌, Bool, true, false}

abbrev pub one_if : Bool → ℕ
one_if true = 1
one_if false = 0

-- the sum of f over the list
abbrev pub total : {A : Type 0} → (A → ℕ) → List A → ℕ
total f [] = 0
total f (x ∷ xs) = f x + total f xs
