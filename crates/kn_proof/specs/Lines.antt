-- The lines of a `VALUE` reply, by the texts of their numbers (keynoted's own line protocol).
use Rattle.std.specs.Prelude.{ℕ, ◌≡◌, ◌≤◌, ◌<◌, Bool, true, false, not, ◌&&◌, ◌||◌, ◌==◌, nat_le, List, [], ◌∷◌, ◌++◌}
use Rattle.std.specs.Prelude.{length, codes, flat_map, slice_index, All}
use Rattle.std.specs.List.{list_all, list_any}
use Rattle.kn_base.specs.Decimal.{is_digit, digits_value}
use Rattle.kn_env.specs.Values.{is_value_name}
use Rattle.kn_proof.specs.Texts.{quoted_byte}

-- a decimal number of any length: digits, of which the first is 0 only where it is the only one
abbrev pub is_numeral : List ℕ → Bool
is_numeral text = nat_le 1 (length text) && list_all is_digit text
    && (length text == 1 || not (slice_index text 0 == 48))

-- the name of a compliance value, which stood between commas and so has none
abbrev pub is_name : List ℕ → Bool
is_name name = is_value_name name && not (list_any (λ byte. byte == 44) name)

-- the letter of a shared or of a private assertion, and its number
abbrev pub is_id : List ℕ → Bool
is_id [] = false
is_id (letter ∷ number) = (letter == 97 || letter == 112) && is_numeral number

-- one line: its one newline is its last byte
pub record IsLine (line : List ℕ) : Type 0 where
  pub front : List ℕ
  pub spelled : line ≡ front ++ 10 ∷ []
  pub whole : list_any (λ byte. byte == 10) front ≡ false

abbrev pub AreBytes : List ℕ → Type 0
AreBytes bytes = All (λ byte. byte < 256) bytes

-- what stands in line 1: the index of a compliance value, its name, a version, and how many ROW lines follow
pub record HeaderTexts : Type 0 where
  pub value : List ℕ
  pub name : List ℕ
  pub version : List ℕ
  pub count : List ℕ

-- these texts, as those of line 1
abbrev pub header_parts : List ℕ → List ℕ → List ℕ → List ℕ → HeaderTexts
header_parts value name version count = record { value = value; name = name; version = version; count = count }

abbrev pub header_line : HeaderTexts → List ℕ
header_line texts = codes "VALUE " ++ texts.value ++ 32 ∷ texts.name ++ 32 ∷ texts.version ++ 32 ∷ texts.count ++ 10
    ∷ []

-- line 1 has its form with these
pub record IsHeaderForm (texts : HeaderTexts) : Type 0 where
  pub value : is_numeral texts.value ≡ true
  pub name : is_name texts.name ≡ true
  pub version : is_numeral texts.version ≡ true
  pub count : is_numeral texts.count ≡ true

-- a number of at most nine digits
abbrev pub IsShort : List ℕ → Type 0
IsShort number = length number ≤ 9

-- a number of at most nine digits that isn't above 255
pub record IsSmall (number : List ℕ) : Type 0 where
  pub short : IsShort number
  pub small : digits_value number ≤ 255

pub record IsHeaderInRange (texts : HeaderTexts) : Type 0 where
  pub value : IsSmall texts.value
  pub version : IsShort texts.version
  pub count : IsShort texts.count

-- what stands in a ROW line: a compliance value, the id of an assertion, and the bytes of a principal
pub record RowTexts : Type 0 where
  pub value : List ℕ
  pub id : List ℕ
  pub principal : List ℕ

abbrev pub row_line : RowTexts → List ℕ
row_line texts = codes "ROW " ++ texts.value ++ 32 ∷ texts.id ++ codes " \"" ++ flat_map quoted_byte texts.principal
    ++ codes "\"\n"

-- a ROW line has its form with these
pub record IsRowForm (texts : RowTexts) : Type 0 where
  pub value : is_numeral texts.value ≡ true
  pub id : is_id texts.id ≡ true
  pub principal : AreBytes texts.principal

-- the number of an id stands behind its letter
pub record IsRowInRange (texts : RowTexts) : Type 0 where
  pub value : IsSmall texts.value
  pub id : length texts.id ≤ 10
