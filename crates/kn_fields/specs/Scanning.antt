-- What a walk over tokens gives: where a field stands, the first fault, and whether they go too deep.
use Rattle.std.specs.Prelude.{◌≡◌, ℕ, Bool, List, [], ◌∷◌, ◌++◌, Option, Some, None, if◌then◌else◌, ◌&&◌, ◌||◌, not}
use Rattle.std.specs.Prelude.{nat_lt, true, false, map}
use Rattle.std.specs.List.{list_all}
use Rattle.std.specs.Option.{option_or}
use Rattle.kn_base.specs.declared.limits.TheConstants.{OPEN_BRACKETS, PREFIX_SIGNS}
use Rattle.kn_lex.specs.Cutting.{TokenView}
use Rattle.kn_fields.specs.Fields.{is_label, field_of, Field, field_with, IsFieldSpan}
use Rattle.kn_fields.specs.Expectations.{expecting_behind, departs}
use Rattle.kn_fields.specs.Depth.{depth_behind, run_behind}
use Rattle.kn_fields.specs.Faults.{is_bad_field, is_second, is_late_version, is_behind_signature, is_version}
use Rattle.kn_fields.specs.declared.constants.Expecting.{Expecting}
use Rattle.kn_fields.specs.declared.constants.Expecting.TheVariants.{Setting}
use Rattle.kn_fields.specs.declared.heading.Heading.{Heading}
use Rattle.kn_fields.specs.declared.field_span.FieldSpan.{FieldSpan}
use Rattle.kn_fields.specs.declared.label_faults.Wrong.{Wrong}
use Rattle.kn_fields.specs.declared.label_faults.Wrong.TheVariants.{Second, LateVersion, BehindSignature}
use Rattle.kn_fields.specs.declared.fault.ReadFault.{ReadFault}
use Rattle.kn_fields.specs.declared.fault.ReadFault.TheVariants.{BadField, FieldTwice, FieldOrder, NoAuthorizer}
use Rattle.kn_fields.specs.declared.fault.ReadFault.TheVariants.{Version, Constant}

-- it tells where the first field of this number stands, or that there is none
abbrev pub IsSpanOf : ℕ → List TokenView → Option FieldSpan → Type 0
IsSpanOf number tokens None = field_with number tokens ≡ None
IsSpanOf number tokens (Some part) = (field : Field) × (field_with number tokens ≡ Some field)
    × IsFieldSpan tokens part field

-- a token that begins a line and is no label
abbrev pub is_stray : TokenView → Bool
is_stray token = token.first && not (is_label token)

-- the place of the first bad token among these, which stand behind others
unfoldable pub first_place : (List TokenView → TokenView → Bool) → List TokenView → List TokenView → Option ℕ
first_place is_bad before [] = None
first_place is_bad before (token ∷ tokens) =
    if is_bad before token then Some token.span.start else first_place is_bad (before ++ token ∷ []) tokens

abbrev pub is_wrong : Wrong → List TokenView → TokenView → Bool
is_wrong Second = is_second
is_wrong LateVersion = is_late_version
is_wrong BehindSignature = is_behind_signature

-- these labels, in their order, are those of fields of these numbers
abbrev pub AreNumbered : List TokenView → List Heading → Type 0
AreNumbered labels headings = (list_all is_label labels ≡ true)
    × (map field_of labels ≡ map (λ heading. heading.number) headings)

abbrev pub order_place : List TokenView → Option ℕ
order_place tokens = option_or (first_place is_late_version [] tokens) (first_place is_behind_signature [] tokens)

-- no token is wrong by those before it
pub record StandsRight (tokens : List TokenView) : Type 0 where
  pub field : first_place is_bad_field [] tokens ≡ None
  pub second : first_place is_second [] tokens ≡ None
  pub order : order_place tokens ≡ None

abbrev pub version_by : Option Field → Option ℕ
version_by None = None
version_by (Some field) = if is_version field.tokens then None else Some field.label.span.start

unfoldable pub version_place : List TokenView → Option ℕ
version_place tokens = version_by (field_with 4 tokens)

abbrev pub end_place : Option ℕ → Expecting → Option ℕ
end_place label Setting = None
end_place label expecting = label

-- where a list of constants departs, or the label's place where it breaks off
unfoldable pub departure : List TokenView → Option ℕ → Option ℕ
departure tokens label = option_or (first_place departs [] tokens) (end_place label (expecting_behind Setting tokens))

abbrev pub constant_by : Option Field → Option ℕ
constant_by None = None
constant_by (Some field) = departure field.tokens (Some field.label.span.start)

unfoldable pub constant_place : List TokenView → Option ℕ
constant_place tokens = constant_by (field_with 6 tokens)

unfoldable pub fault_at : (ℕ → ReadFault) → Option ℕ → Option ReadFault → Option ReadFault
fault_at fault None others = others
fault_at fault (Some at) others = Some (fault at)

unfoldable pub fault_without : ReadFault → Option Field → Option ReadFault → Option ReadFault
fault_without fault None others = Some fault
fault_without fault (Some field) others = others

-- the first fault that the tokens show
unfoldable pub fault_in : List TokenView → Option ReadFault
fault_in tokens =
    fault_at BadField (first_place is_bad_field [] tokens)
    (fault_at FieldTwice (first_place is_second [] tokens)
    (fault_at FieldOrder (order_place tokens)
    (fault_without NoAuthorizer (field_with 1 tokens)
    (fault_at Version (version_place tokens)
    (fault_at Constant (constant_place tokens) None)))))

abbrev pub is_past : ℕ → ℕ → Bool
is_past depth run = nat_lt OPEN_BRACKETS depth || nat_lt PREFIX_SIGNS run

-- the tokens go too deep, where so many brackets are open and so many signs stand before them
unfoldable pub goes_deep : ℕ → ℕ → List TokenView → Bool
goes_deep depth run [] = false
goes_deep depth run (token ∷ tokens) =
    is_past (depth_behind depth token) (run_behind run token)
    || goes_deep (depth_behind depth token) (run_behind run token) tokens
