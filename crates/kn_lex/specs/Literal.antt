-- The value of a literal: the table of escapes, which is keynoted's own, tried from the top.
use Rattle.std.specs.Prelude.{ℕ, zero, suc, ◌+◌, ◌-◌, ◌*◌, Bool, not, ◌&&◌, ◌||◌, ◌==◌, nat_le, List, [], ◌∷◌, length}
use Rattle.std.specs.Prelude.{take, drop, slice_index, Option, Some, None, if◌then◌else◌}
use Rattle.std.specs.List.{prefix_len}
use Rattle.kn_lex.specs.Bytes.{is_white, is_octal_digit}

-- the number of three octal digits
abbrev pub octal_value : List ℕ → ℕ
octal_value bytes = (slice_index bytes 0 - 48) * 64 + (slice_index bytes 1 - 48) * 8 + (slice_index bytes 2 - 48)

-- three octal digits of value 1 to 255 begin here
abbrev pub begins_octal : List ℕ → Bool
begins_octal bytes =
    is_octal_digit (slice_index bytes 0) && is_octal_digit (slice_index bytes 1) && is_octal_digit (slice_index bytes 2)
    && nat_le 1 (octal_value bytes) && nat_le (octal_value bytes) 255

-- `0` and one digit 1 to 7 begin here, which no octal digit follows
abbrev pub begins_low : List ℕ → Bool
begins_low bytes =
    slice_index bytes 0 == 48 && is_octal_digit (slice_index bytes 1) && not (slice_index bytes 1 == 48)
    && not (is_octal_digit (slice_index bytes 2))

-- what stands behind a backslash: the byte that it gives, if any, and how many bytes it takes
abbrev pub escape : List ℕ → Option ℕ × ℕ
escape [] = (None, 0)
escape (byte ∷ bytes) =
    if byte == 110 then (Some 10, 1)
    else if byte == 114 then (Some 13, 1)
    else if byte == 116 then (Some 9, 1)
    else if byte == 102 then (Some 12, 1)
    else if byte == 10 || byte == 13 then (None, 1 + prefix_len is_white bytes)
    else if begins_octal (byte ∷ bytes) then (Some (octal_value (byte ∷ bytes)), 3)
    else if begins_low (byte ∷ bytes) then (Some (slice_index bytes 0 - 48), 2)
    else (Some byte, 1)

abbrev pub with_front : Option ℕ → List ℕ → List ℕ
with_front None bytes = bytes
with_front (Some byte) bytes = byte ∷ bytes

-- the value of what stands between the quotes, of which the first `skip` bytes belong to an escape before
unfoldable pub value_behind : ℕ → List ℕ → List ℕ
value_behind skip [] = []
value_behind zero (byte ∷ bytes) =
    if byte == 92 then with_front (escape bytes).0 (value_behind (escape bytes).1 bytes)
    else byte ∷ value_behind 0 bytes
value_behind (suc skip) (byte ∷ bytes) = value_behind skip bytes

-- what stands between the quotes
abbrev pub inside : List ℕ → List ℕ
inside text = take (length text - 2) (drop 1 text)

-- the value of a literal with its quotes
abbrev pub literal_value : List ℕ → List ℕ
literal_value text = value_behind 0 (inside text)
