-- What a query asks, and the value of a name in it (RFC 2704, sections 4 and 5; which row is tried first is keynoted's
-- own).
use Rattle.std.specs.Prelude.{ℕ, ◌≡◌, ◌≤◌, ◌-◌, false, List, [], length, find, slice_index_or, codes, Option}
use Rattle.std.specs.Prelude.{if◌then◌else◌}
use Rattle.std.specs.List.{join_with_byte, list_any, AllByRecursion}
use Rattle.std.specs.Option.{option_map, option_map_or}
use Rattle.std.specs.Str.{bytes_eq}
use Rattle.kn_base.specs.declared.limits.TheConstants.{PRINCIPAL_BYTES, REQUESTERS}
use Rattle.kn_principal.specs.Principals.{policy}
use Rattle.kn_env.specs.declared.constant.Constant.{Constant}
use Rattle.kn_env.specs.Attributes.{Attribute, attribute_value, begins_low}

-- what is asked: the action's attributes, the names of the compliance values, the lowest first, and who requests, by
-- normal forms in the order of their entry
pub record Asked : Type 0 where
  pub attributes : List Attribute
  pub values : List (List ℕ)
  pub requesters : List (List ℕ)

-- a text that is as long as a principal may be
pub record IsPrincipalSize (text : List ℕ) : Type 0 where
  pub some : 1 ≤ length text
  pub short : length text ≤ PRINCIPAL_BYTES

-- who may request: not too many, each as long as a principal may be, and the policy isn't among them
pub record AreRequesters (requesters : List (List ℕ)) : Type 0 where
  pub few : length requesters ≤ REQUESTERS
  pub sizes : AllByRecursion IsPrincipalSize requesters
  pub others : list_any (bytes_eq policy) requesters ≡ false

-- a query, where an assertion has these constants
pub record Environment : Type 0 where
  pub asked : Asked
  pub constants : List Constant

-- the value of a local constant
abbrev pub constant_value : List ℕ → List Constant → Option (List ℕ)
constant_value name constants = option_map (λ c. c.value) (find (λ c. bytes_eq name c.name) constants)

-- the value of an action attribute, and the empty text where there is none
abbrev pub plain_value : List ℕ → Asked → List ℕ
plain_value name asked = option_map_or (λ value. value) (attribute_value name asked.attributes) []

-- the value of a name that is no local constant's; a name that begins with `_` is never an action attribute's
abbrev pub asked_value : List ℕ → Asked → List ℕ
asked_value name asked =
    if bytes_eq name (codes "_MIN_TRUST") then slice_index_or asked.values 0 []
    else if bytes_eq name (codes "_MAX_TRUST") then slice_index_or asked.values (length asked.values - 1) []
    else if bytes_eq name (codes "_VALUES") then join_with_byte 44 asked.values
    else if bytes_eq name (codes "_ACTION_AUTHORIZERS") then join_with_byte 44 asked.requesters
    else if begins_low name then []
    else plain_value name asked

-- the value of a name: of the local constant, and else of the query
unfoldable pub name_value : Environment → List ℕ → List ℕ
name_value e name = option_map_or (λ value. value) (constant_value name e.constants) (asked_value name e.asked)
