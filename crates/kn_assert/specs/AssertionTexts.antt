-- Which assertion a text spells, and which of its faults is the first one, in the words of the format (RFC 2704,
-- section 4; the faults and their order are keynoted's own).
use Rattle.std.specs.Prelude.{ℕ, ◌≡◌, ◌<◌, ◌⊎◌, true, List, [], ◌∷◌, ◌++◌, Some, None, MatchOption}
use Rattle.kn_env.specs.declared.constant.Constant.{Constant as Set}
use Rattle.kn_lex.specs.Cutting.{TokenView, Cuts}
use Rattle.kn_lex.specs.Literal.{literal_value}
use Rattle.kn_lex.specs.declared.token.Sort.TheVariants.{Text}
use Rattle.kn_fields.specs.Fields.{Field, field_of, fields_of, field_with, signed_to}
use Rattle.kn_fields.specs.Faults.{IsWellFielded, fault_order, IsFirstFault, HasField, constants_in}
use Rattle.kn_fields.specs.Depth.{IsTooDeep}
use Rattle.kn_trees.specs.declared.assertion.Assertion.{Assertion}
use Rattle.kn_formula.specs.Licensing.{AreLicensees, HasNoForm, HasBadThreshold, HasBadName}
use Rattle.kn_program.specs.Conditions.{IsConditions, HasNoProgram, HasBadKinds}
use Rattle.kn_assert.specs.Parts.{principal_of, is_principal_token}
use Rattle.kn_fields.specs.declared.fault.ReadFault.{ReadFault}
use Rattle.kn_fields.specs.declared.fault.ReadFault.TheVariants.{TooDeep, Syntax, Kind, Threshold, Name}

-- these tokens are one token, which is so
abbrev pub IsOne : List TokenView → (TokenView → Type 0) → Type 0
IsOne tokens IsSo = (token : TokenView) × (tokens ≡ token ∷ []) × IsSo token

abbrev pub IsShallow : Field → Type 0
IsShallow field = IsTooDeep field.tokens → ⊥

-- the assertion that these tokens of a text spell, field by field
pub record Spells (text : List ℕ) (tokens : List TokenView) (assertion : Assertion) : Type 0 where
  pub authorizer : HasField 1 tokens (λ field. IsShallow field
      × IsOne field.tokens (λ token. principal_of (constants_in (field_with 6 tokens)) token
      ≡ Some assertion.authorizer))
  pub constants : assertion.constants ≡ constants_in (field_with 6 tokens)
  pub licensees : MatchOption (field_with 5 tokens) (assertion.licensees ≡ None) (λ field. IsShallow field
      × AreLicensees (constants_in (field_with 6 tokens)) field.tokens assertion.licensees)
  pub conditions : MatchOption (field_with 3 tokens) (assertion.conditions ≡ None) (λ field. IsShallow field
      × IsConditions field.tokens assertion.conditions)
  pub signature : MatchOption (field_with 7 tokens) (assertion.signature ≡ None) (λ field. IsShallow field
      × IsOne field.tokens (λ token. (token.sort ≡ Text) × (assertion.signature ≡ Some (literal_value token.text))))
  pub signed_to : assertion.signed_to ≡ signed_to text tokens

-- the text spells the assertion: its tokens do, and its fields are right
pub record IsReading (text : List ℕ) (assertion : Assertion) : Type 0 where
  pub tokens : List TokenView
  pub cut : Cuts text tokens
  pub well_fielded : IsWellFielded text
  pub spelled : Spells text tokens assertion

-- the tokens of an Authorizer field show this fault
abbrev pub AuthorizerShows : List Set → List TokenView → ReadFault → Type 0
AuthorizerShows constants tokens (TooDeep number) = (number ≡ 1) × IsTooDeep tokens
AuthorizerShows constants tokens (Syntax number) = (number ≡ 1)
    × (IsOne tokens (λ token. is_principal_token token ≡ true) → ⊥)
AuthorizerShows constants tokens (Name number) =
    (number ≡ 1) × IsOne tokens (λ token. (is_principal_token token ≡ true) × (principal_of constants token ≡ None))
AuthorizerShows constants tokens _ = ⊥

-- the tokens of a Conditions field show this fault
abbrev pub ConditionsShows : List TokenView → ReadFault → Type 0
ConditionsShows tokens (TooDeep number) = (number ≡ 3) × IsTooDeep tokens
ConditionsShows tokens (Syntax number) = (number ≡ 3) × HasNoProgram tokens
ConditionsShows tokens (Kind number) = (number ≡ 3) × HasBadKinds tokens
ConditionsShows tokens _ = ⊥

-- the tokens of a Licensees field show this fault
abbrev pub LicenseesShows : List Set → List TokenView → ReadFault → Type 0
LicenseesShows constants tokens (TooDeep number) = (number ≡ 5) × IsTooDeep tokens
LicenseesShows constants tokens (Syntax number) = (number ≡ 5) × HasNoForm tokens
LicenseesShows constants tokens (Threshold number) = (number ≡ 5) × HasBadThreshold tokens
LicenseesShows constants tokens (Name number) = (number ≡ 5) × HasBadName constants tokens
LicenseesShows constants tokens _ = ⊥

-- the tokens of a Signature field show this fault
abbrev pub SignatureShows : List TokenView → ReadFault → Type 0
SignatureShows tokens (TooDeep number) = (number ≡ 7) × IsTooDeep tokens
SignatureShows tokens (Syntax number) = (number ≡ 7) × (IsOne tokens (λ token. token.sort ≡ Text) → ⊥)
SignatureShows tokens _ = ⊥

-- the field has this fault; other fields are read no further
abbrev pub FieldShows : List Set → Field → ReadFault → Type 0
FieldShows constants field fault =
    ((field_of field.label ≡ Some 1) × AuthorizerShows constants field.tokens fault)
    ⊎ (((field_of field.label ≡ Some 3) × ConditionsShows field.tokens fault)
    ⊎ (((field_of field.label ≡ Some 5) × LicenseesShows constants field.tokens fault)
    ⊎ ((field_of field.label ≡ Some 7) × SignatureShows field.tokens fault)))

-- of the fields in their order in the text the first that has a fault has this one, and those that it has too
-- have greater numbers
pub record IsFirstShown (constants : List Set) (fields : List Field) (fault : ReadFault) : Type 0 where
  pub before : List Field
  pub field : Field
  pub behind : List Field
  pub split : fields ≡ before ++ field ∷ behind
  pub shown : FieldShows constants field fault
  pub least : (other : ReadFault) → FieldShows constants field other → (fault_order fault < fault_order other)
      ⊎ (fault ≡ other)
  pub first : (front : List Field) (earlier : Field) (rest : List Field) → before ≡ front ++ earlier ∷ rest
      → (other : ReadFault) → FieldShows constants earlier other → ⊥

-- the fields of the text are right, and this is the first fault of what they state
pub record IsFirstStated (text : List ℕ) (fault : ReadFault) : Type 0 where
  pub tokens : List TokenView
  pub cut : Cuts text tokens
  pub well_fielded : IsWellFielded text
  pub shown : IsFirstShown (constants_in (field_with 6 tokens)) (fields_of tokens) fault

-- the first fault of the text: one of its fields themselves, or else of what they state
abbrev pub IsFirstReadFault : List ℕ → ReadFault → Type 0
IsFirstReadFault text fault = IsFirstFault text fault ⊎ IsFirstStated text fault
