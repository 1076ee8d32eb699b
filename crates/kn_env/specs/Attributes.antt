-- Action attributes (RFC 2704, section 3; their limits are keynoted's own), in the order in which they were entered.
use Rattle.std.specs.Prelude.{ℕ, Bool, false, ◌==◌, ◌&&◌, ◌||◌, not, nat_le, nat_lt, List, [], ◌∷◌, length, filter}
use Rattle.std.specs.Prelude.{find, map, Option, Some, None, if◌then◌else◌}
use Rattle.std.specs.List.{list_all, list_any}
use Rattle.std.specs.Option.{option_map}
use Rattle.std.specs.Str.{bytes_eq}
use Rattle.kn_base.specs.Decimal.{is_digit}
use Rattle.kn_base.specs.declared.limits.TheConstants.{NAME_BYTES, VALUE_BYTES, ATTRIBUTES}
use Rattle.kn_env.specs.declared.attributes.EnvFault.{EnvFault}
use Rattle.kn_env.specs.declared.attributes.EnvFault.TheVariants.{BadName, BadValue, Full}

-- an attribute with its value
pub record Attribute : Type 0 where
  pub name : List ℕ
  pub value : List ℕ

abbrev pub is_letter : ℕ → Bool
is_letter byte = (nat_le 65 byte && nat_le byte 90) || (nat_le 97 byte && nat_le byte 122)

abbrev pub begins_name : ℕ → Bool
begins_name byte = is_letter byte || byte == 95

abbrev pub continues_name : ℕ → Bool
continues_name byte = begins_name byte || is_digit byte

-- the names of attributes, in their order
abbrev pub attribute_names : List Attribute → List (List ℕ)
attribute_names attributes = map (λ a. a.name) attributes

-- an attribute name (RFC 2704, section 4): a letter or `_`, then letters, digits and `_`
abbrev pub is_attribute_name : List ℕ → Bool
is_attribute_name [] = false
is_attribute_name (byte ∷ bytes) = begins_name byte && list_all continues_name bytes

abbrev pub begins_low : List ℕ → Bool
begins_low [] = false
begins_low (byte ∷ bytes) = byte == 95

-- a name that may be set: an attribute name that isn't too long and doesn't begin with `_`
abbrev pub is_settable : List ℕ → Bool
is_settable name = (is_attribute_name name && nat_le (length name) NAME_BYTES) && not (begins_low name)

abbrev pub has_attribute : List ℕ → List Attribute → Bool
has_attribute name attributes = list_any (λ a. bytes_eq name a.name) attributes

-- the value of an attribute, where there is one of this name
abbrev pub attribute_value : List ℕ → List Attribute → Option (List ℕ)
attribute_value name attributes = option_map (λ a. a.value) (find (λ a. bytes_eq name a.name) attributes)

-- a name that is there keeps its place and gets the new value; another one comes last
abbrev pub with_attribute : List ℕ → List ℕ → List Attribute → List Attribute
with_attribute name value [] = record { name = name; value = value } ∷ []
with_attribute name value (a ∷ attributes) =
    if bytes_eq name a.name then record a { value = value } ∷ attributes else a ∷ with_attribute name value attributes

-- the attributes of other names, in their order
abbrev pub without_attribute : List ℕ → List Attribute → List Attribute
without_attribute name attributes = filter (λ a. not (bytes_eq name a.name)) attributes

-- why an attribute isn't set; the first that applies
abbrev pub attribute_fault : List ℕ → List ℕ → List Attribute → Option EnvFault
attribute_fault name value attributes =
    if not (is_settable name) then Some BadName
    else if nat_lt VALUE_BYTES (length value) then Some BadValue
    else if not (has_attribute name attributes)
    && nat_le ATTRIBUTES (length attributes) then Some (Full (length attributes))
    else None
