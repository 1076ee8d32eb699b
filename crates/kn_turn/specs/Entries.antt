-- Which entries of a list name a pass, and the longer of two lists.
use Rattle.std.specs.Prelude.{ℕ, ◌≤◌, ◌==◌, List, [], ◌∷◌, Bool, true, false, filter, length, nat_lt}

module _ {E : Type 0} where
  -- the entries that name n
  abbrev pub entries_of : (E → ℕ) → ℕ → List E → List E
  entries_of by n es = filter (λ e. by e == n) es

  -- no entry names a number above n
  abbrev pub AllNameUpTo : (E → ℕ) → ℕ → List E → Type 0
  AllNameUpTo by n [] = Unit {0}
  AllNameUpTo by n (e ∷ es) = (by e ≤ n) × AllNameUpTo by n es

  abbrev pub longer_if : Bool → List E → List E → List E
  longer_if true a b = b
  longer_if false a b = a

  -- the longer of two lists
  abbrev pub longer : List E → List E → List E
  longer a b = longer_if (nat_lt (length a) (length b)) a b
