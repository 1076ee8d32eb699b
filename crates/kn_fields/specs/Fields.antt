-- The fields of an assertion (RFC 2704, section 4). Their numbers are keynoted's own: the order of their
-- names.
use Rattle.std.specs.Prelude.{◌≡◌, ℕ, ◌+◌, ◌-◌, ◌<◌, ◌≤◌, ◌==◌, Bool, false, not, List, [], ◌∷◌, length, take, drop}
use Rattle.std.specs.Prelude.{slice_get, take_while, find, codes, Option, Some, None, if◌then◌else◌}
use Rattle.std.specs.Str.{str_eq_ignore_ascii_case}
use Rattle.kn_lex.specs.Cutting.{TokenView}
use Rattle.kn_lex.specs.TokenViews.{is_label_sort}
use Rattle.kn_fields.specs.declared.heading.Heading.{Heading}
use Rattle.kn_fields.specs.declared.field_span.FieldSpan.{FieldSpan}

-- the number of the field that a label names, in any case of letters
abbrev pub field_number : List ℕ → Option ℕ
field_number label =
    if str_eq_ignore_ascii_case label (codes "Authorizer:") then Some 1
    else if str_eq_ignore_ascii_case label (codes "Comment:") then Some 2
    else if str_eq_ignore_ascii_case label (codes "Conditions:") then Some 3
    else if str_eq_ignore_ascii_case label (codes "KeyNote-Version:") then Some 4
    else if str_eq_ignore_ascii_case label (codes "Licensees:") then Some 5
    else if str_eq_ignore_ascii_case label (codes "Local-Constants:") then Some 6
    else if str_eq_ignore_ascii_case label (codes "Signature:") then Some 7
    else None

abbrev pub is_label : TokenView → Bool
is_label token = is_label_sort token.sort

-- the number of the field whose label this token is
unfoldable pub field_of : TokenView → Option ℕ
field_of token = if is_label token then field_number token.text else None

abbrev pub is_this : ℕ → Option ℕ → Bool
is_this number None = false
is_this number (Some other) = other == number

-- the token is the label of the field of this number
abbrev pub is_label_of : ℕ → TokenView → Bool
is_label_of number token = is_this number (field_of token)

-- a label, and the tokens up to the next one
pub record Field : Type 0 where
  pub label : TokenView
  pub tokens : List TokenView

-- the fields of a list of tokens: its labels, each with the tokens up to the next label
unfoldable pub fields_of : List TokenView → List Field
fields_of [] = []
fields_of (token ∷ tokens) =
    if is_label token
    then record { label = token; tokens = take_while (λ other. not (is_label other)) tokens } ∷ fields_of tokens
    else fields_of tokens

-- the field of this number, which is the first one where there are several
unfoldable pub field_with : ℕ → List TokenView → Option Field
field_with number tokens = find (λ field. is_label_of number field.label) (fields_of tokens)

abbrev pub label_place : ℕ → Option Field → ℕ
label_place otherwise None = otherwise
label_place otherwise (Some field) = field.label.span.start

-- how far a signature covers a text: to its label, or to the end where there is none (RFC 2704, section 4,
-- the Signature field)
abbrev pub signed_to : List ℕ → List TokenView → ℕ
signed_to text tokens = label_place (length text) (field_with 7 tokens)

-- the tokens from one place up to another
unfoldable pub between : ℕ → ℕ → List TokenView → List TokenView
between from to tokens = take (to - from) (drop from tokens)

-- the tokens of the field that stands here, behind its label
abbrev pub tokens_in_span : FieldSpan → List TokenView → List TokenView
tokens_in_span part tokens = between (part.label + 1) part.end tokens

-- the label stands at one place of the list, and the field's tokens from the next place up to another
pub record IsFieldSpan (tokens : List TokenView) (part : FieldSpan) (field : Field) : Type 0 where
  pub label : slice_get tokens part.label ≡ Some field.label
  pub before : part.label < part.end
  pub within : part.end ≤ length tokens
  pub own : field.tokens ≡ between (part.label + 1) part.end tokens

-- it tells where a field stands, and its number
pub record IsHeading (tokens : List TokenView) (field : Field) (heading : Heading) : Type 0 where
  pub part : IsFieldSpan tokens heading.part field
  pub number : heading.number ≡ field_of field.label

-- each of these tells of the field at its place in the list
abbrev pub AreHeadings : List TokenView → List Field → List Heading → Type 0
AreHeadings tokens [] [] = Unit {0}
AreHeadings tokens (field ∷ fields) (heading ∷ headings) = IsHeading tokens field heading
    × AreHeadings tokens fields headings
AreHeadings tokens fields headings = ⊥
