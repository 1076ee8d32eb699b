-- What a contract sees of a token and of an answer.
use Rattle.std.specs.Prelude.{◌≡◌, ℕ, Bool, true, false, List, Result, Ok, Err}
use Rattle.kn_lex.specs.Cutting.{TokenView}
use Rattle.kn_lex.specs.Faults.{IsFirstLexicalFault}
use Rattle.kn_lex.specs.declared.fault.LexFault.{LexFault}
use Rattle.kn_lex.specs.declared.fault.LexFault.TheVariants.{NoMemory}
use Rattle.kn_lex.specs.declared.token.Sort.{Sort}
use Rattle.kn_lex.specs.declared.token.Sort.TheVariants.{Label}
use Rattle.kn_lex.specs.declared.token.Token.{Token}

abbrev pub token_view : Token → TokenView
token_view token = record { sort = token.sort; span = token.span; text = token.text.now; first = token.first }

abbrev pub is_label_sort : Sort → Bool
is_label_sort Label = true
is_label_sort sort = false

-- these tokens are given, unless memory ran out
abbrev pub GivesTokens : List TokenView → Result (List TokenView) LexFault → Type 0
GivesTokens tokens (Ok given) = given ≡ tokens
GivesTokens tokens (Err fault) = fault ≡ NoMemory

-- the fault is the first of the text, or memory ran out
abbrev pub HasCause : List ℕ → LexFault → Type 0
HasCause text NoMemory = Unit {0}
HasCause text fault = IsFirstLexicalFault text fault
