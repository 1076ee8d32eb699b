-- Which tokens cut a text (RFC 2704, section 4). The text is cut into lexemes, which are its tokens and what
-- stands between them; no longer spelling begins where a lexeme does.
use Rattle.std.specs.Prelude.{◌≡◌, ℕ, ◌+◌, ◌≤◌, Bool, true, false, ◌||◌, ◌==◌, List, [], ◌∷◌, ◌++◌, length, take, drop}
use Rattle.std.specs.Prelude.{codes, if◌then◌else◌}
use Rattle.std.specs.Str.{str_eq_ignore_ascii_case}
use Rattle.kn_base.specs.declared.span.Span.{Span}
use Rattle.kn_lex.specs.Spelling.{Spells}
use Rattle.kn_lex.specs.declared.token.Sort.{Sort}
use Rattle.kn_lex.specs.declared.token.Sort.TheVariants.{Label}
use Rattle.kn_lex.specs.declared.lexeme.Lexeme.{Lexeme}
use Rattle.kn_lex.specs.declared.lexeme.Lexeme.TheVariants.{White, Token}
use Rattle.kn_lex.specs.declared.lexeme.Place.{Place}
use Rattle.kn_lex.specs.declared.lexeme.Context.{Context}
use Rattle.kn_lex.specs.declared.lexeme.Context.TheVariants.{LineStart, WithinLine, CommentBody}

-- the first n bytes spell the sort, and no longer front spells any
pub record IsLexeme (context : Context) (rest : List ℕ) (lexeme : Lexeme) (n : ℕ) : Type 0 where
  pub within : n ≤ length rest
  pub spelled : Spells context lexeme (take n rest)
  pub longest : (other : Lexeme) (m : ℕ) → m ≤ length rest → Spells context other (take m rest) → m ≤ n

-- no lexeme begins here
abbrev pub BeginsNone : Context → List ℕ → Type 0
BeginsNone context rest = (lexeme : Lexeme) (n : ℕ) → IsLexeme context rest lexeme n → ⊥

-- the beginning of a text
abbrev pub start : Place
start = record { context = LineStart; has_token = false }

abbrev pub ends_line : List ℕ → Bool
ends_line [] = false
ends_line (byte ∷ []) = byte == 10
ends_line (byte ∷ next ∷ bytes) = ends_line (next ∷ bytes)

-- the label `Comment:`, in any case of letters
abbrev pub is_comment_label : List ℕ → Bool
is_comment_label bytes = str_eq_ignore_ascii_case bytes (codes "Comment:")

abbrev pub context_after : Lexeme → List ℕ → Context
context_after White bytes = if ends_line bytes then LineStart else WithinLine
context_after (Token Label) bytes = if is_comment_label bytes then CommentBody else WithinLine
context_after lexeme bytes = WithinLine

abbrev pub is_token : Lexeme → Bool
is_token (Token sort) = true
is_token lexeme = false

-- the place behind a lexeme
abbrev pub place_after : Place → Lexeme → List ℕ → Place
place_after place lexeme bytes = record {
  context = context_after lexeme bytes;
  has_token = place.has_token || is_token lexeme;
}

-- from this place on the lexemes cut the text up to a place and what is left there
abbrev pub Reaches : Place → List ℕ → List (Lexeme × ℕ) → Place → List ℕ → Type 0
Reaches place text [] end left = (place ≡ end) × (text ≡ left)
Reaches place text (p ∷ ps) end left =
    IsLexeme place.context text p.0 p.1
    × Reaches (place_after place p.0 (take p.1 text)) (drop p.1 text) ps end left

-- the bytes that the lexemes have
abbrev pub lexeme_bytes : List (Lexeme × ℕ) → ℕ
lexeme_bytes [] = 0
lexeme_bytes (p ∷ ps) = p.1 + lexeme_bytes ps

-- a token without where it lies in memory
pub record TokenView : Type 0 where
  pub sort : Sort
  pub span : Span
  pub text : List ℕ
  pub first : Bool

abbrev pub is_line_start : Context → Bool
is_line_start LineStart = true
is_line_start context = false

abbrev pub is_empty : List ℕ → Bool
is_empty [] = true
is_empty (byte ∷ bytes) = false

-- the token that a lexeme at this place is; white space, comments and empty bodies are none
abbrev pub token_of : Context → ℕ → Lexeme → List ℕ → List TokenView
token_of context at (Token sort) bytes =
    if is_empty bytes then [] else record {
      sort = sort;
      span = record { start = at; end = at + length bytes };
      text = bytes;
      first = is_line_start context;
    } ∷ []
token_of context at lexeme bytes = []

-- the tokens among the lexemes, the first of which begins at this place
abbrev pub tokens_of : Place → ℕ → List ℕ → List (Lexeme × ℕ) → List TokenView
tokens_of place at text [] = []
tokens_of place at text (p ∷ ps) =
    token_of place.context at p.0 (take p.1 text)
    ++ tokens_of (place_after place p.0 (take p.1 text)) (at + p.1) (drop p.1 text) ps

-- the lexemes cut the text to its end; behind the label of a comment its body still has to come
abbrev pub CutsLexemes : List ℕ → List (Lexeme × ℕ) → Type 0
CutsLexemes text lexemes = (end : Place) × Reaches start text lexemes end [] × (end.context ≡ CommentBody → ⊥)

-- the tokens cut the text
pub record Cuts (text : List ℕ) (tokens : List TokenView) : Type 0 where
  pub lexemes : List (Lexeme × ℕ)
  pub reached : CutsLexemes text lexemes
  pub exact : tokens ≡ tokens_of start 0 text lexemes
