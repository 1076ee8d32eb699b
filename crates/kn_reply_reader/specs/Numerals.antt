-- Decimal numbers at the front of bytes.
use Rattle.std.specs.Prelude.{ℕ, ◌≡◌, ◌≢◌, ◌≤◌, Bool, false, not, ◌&&◌, ◌||◌, ◌==◌, nat_le, List, [], ◌∷◌, ◌++◌}
use Rattle.std.specs.Prelude.{length, slice_index, decimal, Option, Some, None}
use Rattle.kn_base.specs.Decimal.{is_digit}

-- Whether digits are how some number is written. `decimal` writes the last 64 digits of a number, so that 64 digits are
-- one also with a leading zero.
abbrev pub has_form : List ℕ → Bool
has_form digits =
    (nat_le 1 (length digits) && nat_le (length digits) 64)
    && (length digits == 1 || (length digits == 64 || not (slice_index digits 0 == 48)))

abbrev pub begins_with_digit : List ℕ → Bool
begins_with_digit [] = false
begins_with_digit (b ∷ text) = is_digit b

-- what is left behind a number that no digit follows; nothing where the bytes don't begin with one
abbrev pub IsBehindNumber : List ℕ → Option (List ℕ) → Type 0
IsBehindNumber left None = (number : ℕ) (rest : List ℕ) → begins_with_digit rest ≡ false → left ≢ decimal number ++ rest
IsBehindNumber left (Some rest) = (number : ℕ) × (left ≡ decimal number ++ rest) × (begins_with_digit rest ≡ false)

-- the bytes begin with this number, of at most so much, through the byte that ends it, and this is left
pub record IsNumberAt (most end : ℕ) (left : List ℕ) (number : ℕ) (rest : List ℕ) : Type 0 where
  pub small : number ≤ most
  pub cut : left ≡ decimal number ++ end ∷ rest

-- they begin with none
abbrev pub HasNoNumber : ℕ → ℕ → List ℕ → Type 0
HasNoNumber most end left = (number : ℕ) (rest : List ℕ) → ¬ IsNumberAt most end left number rest
