-- Which bytes spell which sort of lexeme (RFC 2704, section 4; the body of a comment, white space and the
-- items of a literal are as keynoted chooses).
use Rattle.std.specs.Prelude.{◌≡◌, ℕ, Bool, true, false, not, ◌&&◌, ◌||◌, ◌==◌, List, [], ◌∷◌, ◌++◌, if◌then◌else◌}
use Rattle.std.specs.List.{list_all, take_while}
use Rattle.kn_base.specs.Decimal.{is_digit}
use Rattle.kn_lex.specs.Bytes.{is_gap, is_white, is_letter, begins_name, continues_name, continues_label, is_short_sign}
use Rattle.kn_lex.specs.Bytes.{is_long_sign}
use Rattle.kn_lex.specs.declared.token.Sort.TheVariants.{Label, Body, Name, Number, Text, Sign}
use Rattle.kn_lex.specs.declared.lexeme.Lexeme.{Lexeme}
use Rattle.kn_lex.specs.declared.lexeme.Lexeme.TheVariants.{White, Comment, Token}
use Rattle.kn_lex.specs.declared.lexeme.Context.{Context}
use Rattle.kn_lex.specs.declared.lexeme.Context.TheVariants.{LineStart, WithinLine, CommentBody}

-- the bytes are one of the first kind, and then any number of the second
abbrev pub is_run : (ℕ → Bool) → (ℕ → Bool) → List ℕ → Bool
is_run head tail [] = false
is_run head tail (byte ∷ bytes) = head byte && list_all tail bytes

-- white space up to the end of a line at most, whose newline belongs to it
abbrev pub is_white_space : List ℕ → Bool
is_white_space [] = false
is_white_space (byte ∷ []) = is_white byte
is_white_space (byte ∷ next ∷ bytes) = is_gap byte && is_white_space (next ∷ bytes)

-- `#` and what follows it in its line
abbrev pub is_comment : List ℕ → Bool
is_comment bytes = is_run (λ byte. byte == 35) (λ byte. not (byte == 10)) bytes

-- what follows a label's letter: letters, digits, `-` and `_`, and then the colon
abbrev pub is_label_tail : List ℕ → Bool
is_label_tail [] = false
is_label_tail (byte ∷ []) = byte == 58
is_label_tail (byte ∷ next ∷ bytes) = continues_label byte && is_label_tail (next ∷ bytes)

abbrev pub is_label : List ℕ → Bool
is_label [] = false
is_label (byte ∷ bytes) = is_letter byte && is_label_tail bytes

-- the bytes of the line that begins here, without its newline
abbrev pub line_of : List ℕ → List ℕ
line_of bytes = take_while (λ byte. not (byte == 10)) bytes

-- a blank line begins here
abbrev pub is_blank : List ℕ → Bool
is_blank bytes = list_all is_white (line_of bytes)

-- a line begins here that goes on with the body of a comment: it begins with a space, a tab or `#`
-- and isn't blank
abbrev pub is_continuation : List ℕ → Bool
is_continuation [] = false
is_continuation (byte ∷ bytes) = (byte == 32 || byte == 9 || byte == 35) && not (is_blank (byte ∷ bytes))

-- the rest of a line and any number of continuation lines: such a line follows each newline
abbrev pub is_body : List ℕ → Bool
is_body [] = true
is_body (byte ∷ bytes) = (not (byte == 10) || is_continuation bytes) && is_body bytes

-- an attribute name, and any other word
abbrev pub is_name : List ℕ → Bool
is_name bytes = is_run begins_name continues_name bytes

abbrev pub is_number : List ℕ → Bool
is_number bytes = is_run is_digit is_digit bytes

-- one byte of a literal, or a backslash with what belongs to it
pub data Item : Type 0 where
  plain : ℕ → Item
  escaped : ℕ → Item
  joined : Bool → List ℕ → Item

-- what may stand in a literal: a byte other than the quote, the backslash and the ends of a line, a
-- backslash before any byte but these ends, and a backslash before a newline with the white space after it
abbrev pub is_item : Item → Bool
is_item (plain byte) = not (byte == 34 || byte == 92 || byte == 10 || byte == 13)
is_item (escaped byte) = not (byte == 10 || byte == 13)
is_item (joined returned white) = list_all is_white white

abbrev pub item_bytes : Item → List ℕ
item_bytes (plain byte) = byte ∷ []
item_bytes (escaped byte) = 92 ∷ byte ∷ []
item_bytes (joined returned white) = if returned then 92 ∷ 13 ∷ 10 ∷ white else 92 ∷ 10 ∷ white

abbrev pub items_bytes : List Item → List ℕ
items_bytes [] = []
items_bytes (item ∷ items) = item_bytes item ++ items_bytes items

-- an opening quote, items and the closing quote
pub record IsLiteral (bytes : List ℕ) : Type 0 where
  pub items : List Item
  pub allowed : list_all is_item items ≡ true
  pub spelled : bytes ≡ 34 ∷ items_bytes items ++ 34 ∷ []

abbrev pub is_sign : List ℕ → Bool
is_sign [] = false
is_sign (byte ∷ []) = is_short_sign byte
is_sign (byte ∷ next ∷ []) = is_long_sign byte next
is_sign (byte ∷ next ∷ more ∷ bytes) = false

-- the bytes spell this sort, at the beginning of a line or not
abbrev pub SpellsPlain : Bool → Lexeme → List ℕ → Type 0
SpellsPlain first White bytes = is_white_space bytes ≡ true
SpellsPlain first Comment bytes = is_comment bytes ≡ true
SpellsPlain first (Token Label) bytes = (first && is_label bytes) ≡ true
SpellsPlain first (Token Body) bytes = ⊥
SpellsPlain first (Token Name) bytes = is_name bytes ≡ true
SpellsPlain first (Token Number) bytes = is_number bytes ≡ true
SpellsPlain first (Token Text) bytes = IsLiteral bytes
SpellsPlain first (Token Sign) bytes = is_sign bytes ≡ true

-- the bytes spell the body of a comment, which may be empty
abbrev pub SpellsBody : Lexeme → List ℕ → Type 0
SpellsBody (Token Body) bytes = is_body bytes ≡ true
SpellsBody lexeme bytes = ⊥

-- the bytes spell this sort where they stand: labels stand at the beginning of a line alone, and behind
-- the label of a comment nothing but its body is read
abbrev pub Spells : Context → Lexeme → List ℕ → Type 0
Spells LineStart lexeme bytes = SpellsPlain true lexeme bytes
Spells WithinLine lexeme bytes = SpellsPlain false lexeme bytes
Spells CommentBody lexeme bytes = SpellsBody lexeme bytes
