-- What holds of each token of a text without faults.
use Rattle.std.specs.Prelude.{◌≡◌, ℕ, ◌+◌, ◌<◌, ◌≤◌, Bool, true, ◌||◌, ◌==◌, List, [], ◌∷◌, length, take, drop}
use Rattle.kn_base.specs.declared.limits.TheConstants.{WHOLE_NUMBER}
use Rattle.kn_base.specs.Decimal.{digits_value}
use Rattle.kn_lex.specs.Spelling.{is_label, is_body, is_name, is_number, is_sign, IsLiteral}
use Rattle.kn_lex.specs.Cutting.{TokenView, ends_line}
use Rattle.kn_lex.specs.declared.token.Sort.{Sort}
use Rattle.kn_lex.specs.declared.token.Sort.TheVariants.{Label, Body, Name, Number, Text, Sign}

-- the bytes spell the sort
abbrev pub IsSpelled : Sort → List ℕ → Type 0
IsSpelled Label bytes = is_label bytes ≡ true
IsSpelled Body bytes = is_body bytes ≡ true
IsSpelled Name bytes = is_name bytes ≡ true
IsSpelled Number bytes = (is_number bytes ≡ true) × (digits_value bytes ≤ WHOLE_NUMBER)
IsSpelled Text bytes = IsLiteral bytes
IsSpelled Sign bytes = is_sign bytes ≡ true

-- a token has some bytes, which are those of the text at its span and spell its sort
pub record IsTokenOf (text : List ℕ) (token : TokenView) : Type 0 where
  pub some : 0 < length token.text
  pub size : token.span.end ≡ token.span.start + length token.text
  pub within : token.span.end ≤ length text
  pub slice : token.text ≡ take (length token.text) (drop token.span.start text)
  pub spelled : IsSpelled token.sort token.text

-- the tokens stand in their order from this place on, none over the next
abbrev pub StandInOrder : ℕ → List TokenView → Type 0
StandInOrder from [] = Unit {0}
StandInOrder from (token ∷ tokens) = (from ≤ token.span.start) × (token.span.start < token.span.end)
    × StandInOrder token.span.end tokens

-- a line of the text begins at this place
abbrev pub begins_line : List ℕ → ℕ → Bool
begins_line text at = at == 0 || ends_line (take at text)
