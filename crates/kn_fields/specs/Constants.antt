-- The list of a Local-Constants field (RFC 2704, section 4): names, each set by `=` to a literal.
use Rattle.std.specs.Prelude.{◌≡◌, ◌≢◌, ℕ, Bool, true, false, List, [], ◌∷◌, ◌++◌, map, slice_index, codes}
use Rattle.std.specs.List.{IsDistinct}
use Rattle.std.specs.Str.{bytes_eq}
use Rattle.kn_env.specs.declared.constant.Constant.{Constant}
use Rattle.kn_lex.specs.Cutting.{TokenView}
use Rattle.kn_lex.specs.Literal.{literal_value}
use Rattle.kn_lex.specs.declared.token.Sort.{Sort}
use Rattle.kn_lex.specs.declared.token.Sort.TheVariants.{Name, Text, Sign}

abbrev pub is_name_sort : Sort → Bool
is_name_sort Name = true
is_name_sort sort = false

abbrev pub is_sign_sort : Sort → Bool
is_sign_sort Sign = true
is_sign_sort sort = false

abbrev pub is_text_sort : Sort → Bool
is_text_sort Text = true
is_text_sort sort = false

abbrev pub constant_of : TokenView → TokenView → Constant
constant_of name value = record { name = name.text; value = literal_value value.text }

-- the constants of a list, of three tokens each
unfoldable pub constants_of : List TokenView → List Constant
constants_of [] = []
constants_of (name ∷ []) = []
constants_of (name ∷ equals ∷ []) = []
constants_of (name ∷ equals ∷ value ∷ tokens) = constant_of name value ∷ constants_of tokens

-- a name that doesn't begin with `_`, the sign `=` and a literal
pub record IsSetting (name equals value : TokenView) : Type 0 where
  pub name_sort : name.sort ≡ Name
  pub own_name : slice_index name.text 0 ≢ 95
  pub sign_sort : equals.sort ≡ Sign
  pub sign : equals.text ≡ codes "="
  pub literal : value.sort ≡ Text

-- such three tokens in a row, any number of times
abbrev pub AreSettings : List TokenView → Type 0
AreSettings [] = Unit {0}
AreSettings (name ∷ []) = ⊥
AreSettings (name ∷ equals ∷ []) = ⊥
AreSettings (name ∷ equals ∷ value ∷ tokens) = IsSetting name equals value × AreSettings tokens

-- a whole list of constants, each of another name
pub record IsConstantList (tokens : List TokenView) : Type 0 where
  pub settings : AreSettings tokens
  pub distinct : IsDistinct bytes_eq (map (λ constant. constant.name) (constants_of tokens))

-- some list of constants begins with these tokens
pub record BeginsConstantList (tokens : List TokenView) : Type 0 where
  pub behind : List TokenView
  pub list : IsConstantList (tokens ++ behind)

-- the list of constants departs at this place: some list begins with the tokens before it, and none with its token too
pub record HasDeparture (tokens : List TokenView) (at : ℕ) : Type 0 where
  pub before : List TokenView
  pub token : TokenView
  pub behind : List TokenView
  pub here : tokens ≡ before ++ token ∷ behind
  pub begins : BeginsConstantList before
  pub departs : BeginsConstantList (before ++ token ∷ []) → ⊥
  pub place : at ≡ token.span.start
