-- The faults of a text by its fields, each with its place, in the one order in which they are answered. The
-- faults and their order are keynoted's own.
use Rattle.std.specs.Prelude.{◌≡◌, ℕ, ◌<◌, ◌==◌, ◌⊎◌, Bool, true, false, ◌&&◌, ◌||◌, is_none, List, [], ◌∷◌, ◌++◌}
use Rattle.std.specs.Prelude.{length, codes, Option, Some, None, unwrap_or}
use Rattle.std.specs.List.{list_any}
use Rattle.std.specs.Str.{bytes_eq}
use Rattle.kn_base.specs.declared.limits.TheConstants.{ASSERTION_BYTES}
use Rattle.kn_env.specs.declared.constant.Constant.{Constant as Set}
use Rattle.kn_lex.specs.Cutting.{TokenView, Cuts}
use Rattle.kn_lex.specs.Faults.{IsFaultless, IsFirstLexicalFault}
use Rattle.kn_lex.specs.Literal.{literal_value}
use Rattle.kn_lex.specs.declared.fault.LexFault.{LexFault}
use Rattle.kn_lex.specs.declared.fault.LexFault.TheVariants as L
use Rattle.kn_lex.specs.declared.token.Sort.{Sort}
use Rattle.kn_lex.specs.declared.token.Sort.TheVariants as S
use Rattle.kn_fields.specs.Fields.{is_label, field_of, is_label_of, Field, field_with}
use Rattle.kn_fields.specs.Constants.{constants_of, IsConstantList, BeginsConstantList, HasDeparture}
use Rattle.kn_fields.specs.Numbers.{fault_number}
use Rattle.kn_fields.specs.declared.fault.ReadFault.{ReadFault}
use Rattle.kn_fields.specs.declared.fault.ReadFault.TheVariants.{NotText, BadString, BadToken, Float, Regex, Number}
use Rattle.kn_fields.specs.declared.fault.ReadFault.TheVariants.{Blank, TooLong, BadField, FieldTwice, FieldOrder}
use Rattle.kn_fields.specs.declared.fault.ReadFault.TheVariants.{NoAuthorizer, Version, Constant, NoMemory}

-- no token is bad behind those before it
abbrev pub HasNone : (List TokenView → TokenView → Bool) → List TokenView → Type 0
HasNone is_bad tokens =
    (before : List TokenView) (token : TokenView) (behind : List TokenView) → tokens ≡ before ++ token ∷ behind
    → is_bad before token ≡ false

-- the first token that is bad behind those before it stands at this place
pub record HasFirst (is_bad : List TokenView → TokenView → Bool) (tokens : List TokenView) (at : ℕ) : Type 0 where
  pub before : List TokenView
  pub token : TokenView
  pub behind : List TokenView
  pub here : tokens ≡ before ++ token ∷ behind
  pub bad : is_bad before token ≡ true
  pub first : HasNone is_bad before
  pub place : at ≡ token.span.start

-- a token that is the text's first, or stands at the beginning of a line, and is no label of a field
abbrev pub is_bad_field : List TokenView → TokenView → Bool
is_bad_field before token = (length before == 0 || token.first) && is_none (field_of token)

abbrev pub is_repeat : List TokenView → Option ℕ → Bool
is_repeat before None = false
is_repeat before (Some number) = list_any (is_label_of number) before

-- a label whose field stood before
abbrev pub is_second : List TokenView → TokenView → Bool
is_second before token = is_repeat before (field_of token)

-- the label of a version that isn't the first label
abbrev pub is_late_version : List TokenView → TokenView → Bool
is_late_version before token = is_label_of 4 token && list_any is_label before

-- a label behind that of a signature
abbrev pub is_behind_signature : List TokenView → TokenView → Bool
is_behind_signature before token = is_label token && list_any (is_label_of 7) before

-- the text is the digit 2
abbrev pub is_two : List ℕ → Bool
is_two text = bytes_eq text (codes "2")

abbrev pub is_two_by : Sort → List ℕ → Bool
is_two_by S.Number text = is_two text
is_two_by S.Text text = is_two (literal_value text)
is_two_by sort text = false

-- one number spelled `2`, or one literal of value `2`
abbrev pub is_version : List TokenView → Bool
is_version [] = false
is_version (token ∷ []) = is_two_by token.sort token.text
is_version (token ∷ next ∷ tokens) = false

-- the list of constants departs at this place, or breaks off at its end, which is reported by the label's place
abbrev pub DepartsAt : Field → ℕ → Type 0
DepartsAt field at =
    HasDeparture field.tokens at
    ⊎ (BeginsConstantList field.tokens × (IsConstantList field.tokens → ⊥) × (at ≡ field.label.span.start))

-- there is a field of this number, and it is so
abbrev pub HasField : ℕ → List TokenView → (Field → Type 0) → Type 0
HasField number tokens IsSo = (field : Field) × (field_with number tokens ≡ Some field) × IsSo field

-- the tokens show this fault
abbrev pub Shows : List TokenView → ReadFault → Type 0
Shows tokens (BadField at) = HasFirst is_bad_field tokens at
Shows tokens (FieldTwice at) = HasFirst is_second tokens at
Shows tokens (FieldOrder at) =
    HasFirst is_late_version tokens at ⊎ (HasNone is_late_version tokens × HasFirst is_behind_signature tokens at)
Shows tokens NoAuthorizer = field_with 1 tokens ≡ None
Shows tokens (Version at) = HasField 4 tokens (λ field. (is_version field.tokens ≡ false)
    × (at ≡ field.label.span.start))
Shows tokens (Constant at) = HasField 6 tokens (λ field. DepartsAt field at)
Shows tokens _ = ⊥

-- the text has no lexical fault, and its tokens show this one
pub record TokensShow (text : List ℕ) (fault : ReadFault) : Type 0 where
  pub tokens : List TokenView
  pub cut : Cuts text tokens
  pub faultless : IsFaultless text
  pub shown : Shows tokens fault

-- a fault of the tokens themselves as one of the text
abbrev pub of_lexical : LexFault → ReadFault
of_lexical (L.NotText at) = NotText at
of_lexical (L.BadString at) = BadString at
of_lexical (L.BadToken at) = BadToken at
of_lexical (L.Float at) = Float at
of_lexical (L.Regex at) = Regex at
of_lexical (L.Number at) = Number at
of_lexical (L.Blank at) = Blank at
of_lexical L.NoMemory = NoMemory

-- the text has this fault: it is too long, or it is its first lexical one, or its tokens show it
abbrev pub HasFault : List ℕ → ReadFault → Type 0
HasFault text fault =
    ((ASSERTION_BYTES < length text) × (fault ≡ TooLong (length text)))
    ⊎ (((cause : LexFault) × IsFirstLexicalFault text cause × (fault ≡ of_lexical cause)) ⊎ TokensShow text fault)

-- the one order of faults: that of their numbers, but that a text that is too long is read no further
abbrev pub fault_order : ReadFault → ℕ
fault_order (TooLong len) = 0
fault_order fault = unwrap_or (fault_number fault) 0

-- the text has this fault, and any other one comes later in the order
pub record IsFirstFault (text : List ℕ) (fault : ReadFault) : Type 0 where
  pub has : HasFault text fault
  pub least : (other : ReadFault) → HasFault text other → (fault_order fault < fault_order other) ⊎ (fault ≡ other)

-- the text has none of these faults
abbrev pub IsWellFielded : List ℕ → Type 0
IsWellFielded text = (fault : ReadFault) → HasFault text fault → ⊥

abbrev pub constants_in : Option Field → List Set
constants_in None = []
constants_in (Some field) = constants_of field.tokens

-- the fault is the first of the text, or memory ran out
abbrev pub HasCause : List ℕ → ReadFault → Type 0
HasCause text fault = (fault ≡ NoMemory) ⊎ IsFirstFault text fault
