-- What is asked in the examples.
use Rattle.std.specs.Prelude.{ℕ, List, [], ◌∷◌, ◌++◌, codes}
use Rattle.kn_env.specs.declared.constant.Constant.{Constant}
use Rattle.kn_env.specs.Attributes.{Attribute}
use Rattle.kn_env.specs.Environment.{Asked, Environment}

abbrev pub attribute : List ℕ → List ℕ → Attribute
attribute name value = record { name = name; value = value }

abbrev pub constant : List ℕ → List ℕ → Constant
constant name value = record { name = name; value = value }

-- mail of level 4, asked for by two; the last attribute's name begins as those of the query itself do
abbrev pub mail : Asked
mail = record {
  attributes =
      attribute (codes "app_domain") (codes "mail") ∷ attribute (codes "level") (codes "4")
      ∷ attribute (codes "size") (codes "12kB") ∷ attribute (codes "field") (codes "level")
      ∷ attribute (codes "_secret") (codes "x") ∷ [];
  values = codes "no" ∷ codes "log" ∷ codes "yes" ∷ [];
  requesters = codes "alice" ∷ codes "rsa-hex:1023abcd" ∷ [];
}

-- an assertion without local constants
abbrev pub plain : Environment
plain = record { asked = mail; constants = [] }

-- an assertion with two of them, one of an attribute's name
abbrev pub with_constants : Environment
with_constants = record {
  asked = mail;
  constants = constant (codes "owner") (codes "carol") ∷ constant (codes "level") (codes "9") ∷ [];
}

-- an action with these attributes, and an assertion without local constants
abbrev pub acting : List Attribute → Environment
acting attributes = record { asked = record mail { attributes = attributes }; constants = [] }

-- one attribute of this name and value
abbrev pub where_is : List ℕ → List ℕ → Environment
where_is name value = acting (attribute name value ∷ [])

-- a user between four compliance values
abbrev pub user : List ℕ → List ℕ → Environment
user id name = record {
  asked = record {
    attributes = attribute (codes "user_id") id ∷ attribute (codes "user_name") name ∷ [];
    values = codes "no_access" ∷ codes "guest_access" ∷ codes "user_access" ∷ codes "full_access" ∷ [];
    requesters = [];
  };
  constants = [];
}

-- the example of RFC 2704, section 5.3
abbrev pub user_conditions : List ℕ
user_conditions =
    codes "@user_id == 0 -> \"full_access\";         # clause (1)\n"
    ++ codes "@user_id < 1000 -> \"user_access\";       # clause (2)\n"
    ++ codes "@user_id < 10000 -> \"guest_access\";     # clause (3)\n"
    ++ codes "user_name == \"root\" -> \"full_access\"; # clause (4)\n"
