-- Which pieces spell formulas, how deep these are, and how levels are counted (keynoted's own).
use Rattle.std.specs.Prelude.{ℕ, zero, suc, ◌+◌, ◌-◌, ◌≡◌, ◌<◌, ◌≤◌, ◌==◌, List, [], ◌∷◌, take, drop, max, slice_index}
use Rattle.std.specs.Prelude.{if◌then◌else◌}
use Rattle.kn_system.specs.declared.rows.Piece.{Piece}
use Rattle.kn_system.specs.declared.rows.Piece.TheVariants.{Who, Gate}

-- these pieces spell n formulas over so many principals, one after another
abbrev pub AreForms : ℕ → ℕ → List Piece → Type 0
AreForms principals zero [] = Unit {0}
AreForms principals (suc n) [] = ⊥
AreForms principals zero (p ∷ ps) = ⊥
AreForms principals (suc n) (Who p ∷ ps) = (p < principals) × AreForms principals n ps
AreForms principals (suc n) (Gate k m ∷ ps) = (1 ≤ k) × AreForms principals (n + m) ps

-- the greatest of these numbers
abbrev pub greatest_of : List ℕ → ℕ
greatest_of [] = 0
greatest_of (x ∷ xs) = max x (greatest_of xs)

-- how many levels the formulas that pieces spell have: a principal is one, and a gate one above the deepest of its
-- parts
abbrev pub form_depths : List Piece → List ℕ
form_depths [] = []
form_depths (Who p ∷ ps) = 1 ∷ form_depths ps
form_depths (Gate k n ∷ ps) = suc (greatest_of (take n (form_depths ps))) ∷ drop n (form_depths ps)

-- one formula over the principals, of at most 200 levels
pub record IsFormula (principals : ℕ) (ps : List Piece) : Type 0 where
  pub one : AreForms principals 1 ps
  pub shallow : slice_index (form_depths ps) 0 ≤ 200

-- how many formulas pieces spell, read from the right
abbrev pub form_count : List Piece → ℕ
form_count [] = 0
form_count (Who p ∷ ps) = suc (form_count ps)
form_count (Gate k n ∷ ps) = suc (form_count ps - n)

-- principals are in range, and behind each gate stand as many formulas as it counts
abbrev pub AreSpelt : ℕ → List Piece → Type 0
AreSpelt principals [] = Unit {0}
AreSpelt principals (Who p ∷ ps) = (p < principals) × AreSpelt principals ps
AreSpelt principals (Gate k n ∷ ps) = (n ≤ form_count ps) × AreSpelt principals ps

-- how often a level stands in a list
abbrev pub often : ℕ → List ℕ → ℕ
often level [] = 0
often level (x ∷ xs) = (if x == level then 1 else 0) + often level xs

-- how often each level stands in a list
abbrev pub AreTallied : List ℕ → List ℕ → Type 0
AreTallied tally levels = (level : ℕ) → level < 64 → slice_index tally level ≡ often level levels
