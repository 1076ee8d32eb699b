-- Forms of texts: a byte 35, `#`, stands for a decimal number, and each other byte for itself.
use Rattle.std.specs.Prelude.{ℕ, ◌≡◌, ◌⊎◌, Bool, true, false, not, ◌&&◌, ◌||◌, ◌==◌, List, [], ◌∷◌, ◌++◌, drop}
use Rattle.std.specs.Prelude.{slice_index, decimal, if◌then◌else◌}
use Rattle.kn_base.specs.Decimal.{is_digit}

-- the form with these numbers in their places
abbrev pub fill_form : List ℕ → List ℕ → List ℕ
fill_form [] numbers = []
fill_form (b ∷ form) numbers =
    if b == 35 then decimal (slice_index numbers 0) ++ fill_form form (drop 1 numbers) else b ∷ fill_form form numbers

-- the text has the form
abbrev pub IsOfForm : List ℕ → List ℕ → Type 0
IsOfForm form text = (numbers : List ℕ) × (text ≡ fill_form form numbers)

-- it has one of these
abbrev pub IsOfOneForm : List (List ℕ) → List ℕ → Type 0
IsOfOneForm [] text = ⊥
IsOfOneForm (form ∷ forms) text = IsOfForm form text ⊎ IsOfOneForm forms text

-- the form goes on with a byte that ends a number
abbrev pub ends_number : List ℕ → Bool
ends_number [] = false
ends_number (b ∷ form) = not (is_digit b || b == 35)

-- each number of the form is ended by the byte behind it
abbrev pub is_form : List ℕ → Bool
is_form [] = true
is_form (b ∷ form) = (not (b == 35) || ends_number form) && is_form form

-- each of them is one
abbrev pub are_forms : List (List ℕ) → Bool
are_forms [] = true
are_forms (form ∷ forms) = is_form form && are_forms forms
