-- The compliance values of a query by their names (RFC 2704, section 5; their text is keynoted's own).
use Rattle.std.specs.Prelude.{ℕ, ◌≡◌, ◌≤◌, Bool, true, ◌==◌, ◌&&◌, ◌||◌, not, nat_le, nat_lt, List, [], length, take}
use Rattle.std.specs.Prelude.{slice_index_or, Option, Some, None, if◌then◌else◌}
use Rattle.std.specs.List.{list_all, list_any, slice_split, position, range_with_len, AllByRecursion, IsDistinct}
use Rattle.std.specs.Str.{bytes_eq}
use Rattle.kn_base.specs.declared.limits.TheConstants.{COMPLIANCE_VALUE_BYTES, FEWEST_COMPLIANCE_VALUES}
use Rattle.kn_base.specs.declared.limits.TheConstants.{MOST_COMPLIANCE_VALUES}
use Rattle.kn_env.specs.declared.values.ValuesFault.{ValuesFault}
use Rattle.kn_env.specs.declared.values.ValuesFault.TheVariants.{Count, BadName, Twice}

-- the pieces of a text between its commas
abbrev pub between_commas : List ℕ → List (List ℕ)
between_commas text = slice_split (λ byte. byte == 44) text

-- a name of one byte or more that isn't too long, each byte a printing character of ASCII but the space
abbrev pub is_value_name : List ℕ → Bool
is_value_name name = (nat_le 1 (length name) && nat_le (length name) COMPLIANCE_VALUE_BYTES)
    && list_all (λ byte. nat_le 33 byte && nat_le byte 126) name

-- the name at this place stood before
abbrev pub stood_before : List (List ℕ) → ℕ → Bool
stood_before names at = list_any (bytes_eq (slice_index_or names at [])) (take at names)

-- the place of the first name that is no value's
abbrev pub bad_place : List (List ℕ) → Option ℕ
bad_place names = position (λ name. not (is_value_name name)) names

-- the least place whose name stood before
abbrev pub twice_place : List (List ℕ) → Option ℕ
twice_place names = position (stood_before names) (range_with_len 0 (length names))

abbrev pub twice_fault : Option ℕ → Option ValuesFault
twice_fault None = None
twice_fault (Some at) = Some (Twice at)

abbrev pub name_fault : Option ℕ → List (List ℕ) → Option ValuesFault
name_fault None names = twice_fault (twice_place names)
name_fault (Some at) names = Some (BadName at)

-- why names are no compliance values, the first that applies: too few or too many, a name that is none, a name twice
abbrev pub names_fault : List (List ℕ) → Option ValuesFault
names_fault names =
    if nat_lt (length names) FEWEST_COMPLIANCE_VALUES
    || nat_lt MOST_COMPLIANCE_VALUES (length names) then Some (Count (length names)) else name_fault
    (bad_place names) names

-- the fault of a text of names
abbrev pub values_fault : List ℕ → Option ValuesFault
values_fault text = names_fault (between_commas text)

abbrev pub values_unless : Option ValuesFault → List (List ℕ) → Option (List (List ℕ))
values_unless None names = Some names
values_unless (Some fault) names = None

-- the compliance values that a text names, the lowest first, with commas between them; none where it names no such list
abbrev pub values_of : List ℕ → Option (List (List ℕ))
values_of text = values_unless (values_fault text) (between_commas text)

-- the index of the value of this name, the lowest having 0
abbrev pub index_of : List ℕ → List (List ℕ) → Option ℕ
index_of name values = position (λ value. bytes_eq value name) values

-- the names of compliance values: neither too few nor too many, each of its form, and no two of them equal
pub record AreValueNames (names : List (List ℕ)) : Type 0 where
  pub at_least : FEWEST_COMPLIANCE_VALUES ≤ length names
  pub at_most : length names ≤ MOST_COMPLIANCE_VALUES
  pub form : AllByRecursion (λ name. is_value_name name ≡ true) names
  pub different : IsDistinct bytes_eq names
