-- Which lists of tokens cut a text, said of the finished list.
use Rattle.std.specs.Prelude.{◌≡◌, ℕ, ◌+◌, ◌<◌, Bool, true, not, ◌&&◌, ◌==◌, List, [], ◌∷◌, ◌++◌, All, map, length}
use Rattle.std.specs.Prelude.{take, drop, Option, Some, None, if◌then◌else◌}
use Rattle.kn_lex.specs.Spelling.{is_continuation}
use Rattle.kn_lex.specs.Cutting.{TokenView, IsLexeme, is_comment_label}
use Rattle.kn_lex.specs.TokenViews.{is_label_sort}
use Rattle.kn_lex.specs.TokenFacts.{StandInOrder, begins_line}
use Rattle.kn_lex.specs.Between.{StandApart}
use Rattle.kn_lex.specs.declared.token.Sort.{Sort}
use Rattle.kn_lex.specs.declared.token.Sort.TheVariants.{Body}
use Rattle.kn_lex.specs.declared.lexeme.Lexeme.TheVariants.{Token}
use Rattle.kn_lex.specs.declared.lexeme.Context.{Context}
use Rattle.kn_lex.specs.declared.lexeme.Context.TheVariants.{LineStart, WithinLine, CommentBody}

-- what a token is spelled by: a body by the rules of bodies, and any other token by those of the place, which are that
-- a label stands at the beginning of a line alone
abbrev pub context_of : Sort → Bool → Context
context_of Body first = CommentBody
context_of sort first = if first then LineStart else WithinLine

-- a token has some bytes, which are those of the text at its span; it tells whether a line begins there; and they spell
-- its sort, while no longer front of what stands there spells any
pub record IsWhole (text : List ℕ) (token : TokenView) : Type 0 where
  pub some : 0 < length token.text
  pub size : token.span.end ≡ token.span.start + length token.text
  pub slice : token.text ≡ take (length token.text) (drop token.span.start text)
  pub line : token.first ≡ begins_line text token.span.start
  pub longest : IsLexeme (context_of token.sort token.first) (drop token.span.start text) (Token token.sort)
      (length token.text)

-- the body of a comment would be empty here: the text ends, or the line does and no continuation line follows
abbrev pub is_body_empty : List ℕ → Bool
is_body_empty [] = true
is_body_empty (byte ∷ bytes) = byte == 10 && not (is_continuation bytes)

-- where a body has to stand behind a token: directly behind the label `Comment:`, unless it would be empty
abbrev pub body_due : List ℕ → TokenView → Option ℕ
body_due text token =
    if is_label_sort token.sort && is_comment_label token.text
    && not (is_body_empty (drop token.span.end text)) then Some token.span.end else None

abbrev pub body_place : Sort → ℕ → Option ℕ
body_place Body at = Some at
body_place sort at = None

-- where a token stands, if it is a body
abbrev pub body_here : TokenView → Option ℕ
body_here token = body_place token.sort token.span.start

-- The tokens of a text: each is whole, they stand in order, and white space and comments alone stand before, between
-- and behind them. Behind each token a body is due exactly where the next token is one, none before the first token,
-- and nothing is due behind the last.
pub record AreTokensOf (text : List ℕ) (tokens : List TokenView) : Type 0 where
  pub whole : All (IsWhole text) tokens
  pub order : StandInOrder 0 tokens
  pub apart : StandApart text 0 tokens
  pub bodies : None ∷ map (body_due text) tokens ≡ map body_here tokens ++ None ∷ []
