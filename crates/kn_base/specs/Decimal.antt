-- Decimal numbers of one to nine digits (keynoted's own).
use Rattle.std.specs.Prelude.{ℕ, Bool, List, [], ◌∷◌, ◌+◌, ◌-◌, ◌*◌, ◌^◌, nat_le, nat_lt, ◌==◌, ◌&&◌, ◌||◌, not, length}
use Rattle.std.specs.Prelude.{slice_index, Option, Some, None, if◌then◌else◌}
use Rattle.std.specs.List.{list_all}

-- whether a byte is a decimal digit
abbrev pub is_digit : ℕ → Bool
is_digit byte = nat_le 48 byte && nat_le byte 57

-- the number that digits spell, the highest first: each counts by the power of ten of its place
abbrev pub digits_value : List ℕ → ℕ
digits_value [] = 0
digits_value (byte ∷ bytes) = (byte - 48) * 10 ^ length bytes + digits_value bytes

-- whether a text has from one to nine bytes and begins with the digit 0 only where that is all of it
abbrev pub has_decimal_form : List ℕ → Bool
has_decimal_form text =
    nat_le 1 (length text) && nat_le (length text) 9 && (length text == 1 || not (slice_index text 0 == 48))

-- the number that a text of this form spells by digits alone
abbrev pub decimal_of : List ℕ → Option ℕ
decimal_of text = if has_decimal_form text && list_all is_digit text then Some (digits_value text) else None

-- the number that digits spell, unless it is above a limit
abbrev pub digits_within : ℕ → List ℕ → Option ℕ
digits_within limit digits = if nat_lt limit (digits_value digits) then None else Some (digits_value digits)
