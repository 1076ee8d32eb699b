-- What the functions of the scanner compute, from the front of what is left of a text.
use Rattle.std.specs.Prelude.{ℕ, ◌≡◌, ◌+◌, Bool, true, false, not, ◌&&◌, ◌||◌, ◌==◌, nat_lt, List, [], ◌∷◌, take, drop}
use Rattle.std.specs.Prelude.{Option, Some, None, MatchOption, if◌then◌else◌}
use Rattle.std.specs.List.{prefix_len}
use Rattle.kn_base.specs.declared.limits.TheConstants.{WHOLE_NUMBER}
use Rattle.kn_base.specs.Decimal.{is_digit, digits_value}
use Rattle.kn_lex.specs.Bytes.{is_gap, is_white, is_letter, begins_name, continues_name, continues_label, is_short_sign}
use Rattle.kn_lex.specs.Bytes.{is_long_sign}
use Rattle.kn_lex.specs.Spelling.{is_blank, is_continuation}
use Rattle.kn_lex.specs.Cutting.{is_line_start}
use Rattle.kn_lex.specs.Faults.{begins_foreign, begins_quote, begins_ampersand, begins_match, begins_fraction}
use Rattle.kn_lex.specs.Faults.{goes_on}
use Rattle.kn_lex.specs.declared.quote.Quote.{Quote}
use Rattle.kn_lex.specs.declared.quote.Quote.TheVariants.{Opening, Plain, Escaped, Returned, Joined}
use Rattle.kn_lex.specs.declared.quote.Step.{Step}
use Rattle.kn_lex.specs.declared.quote.Step.TheVariants.{Fail, Close, Go}
use Rattle.kn_lex.specs.declared.token.Sort.{Sort}
use Rattle.kn_lex.specs.declared.token.Sort.TheVariants.{Label, Body, Name, Number, Text, Sign}
use Rattle.kn_lex.specs.declared.lexeme.Lexeme.{Lexeme}
use Rattle.kn_lex.specs.declared.lexeme.Lexeme.TheVariants.{White, Comment, Token}
use Rattle.kn_lex.specs.declared.lexeme.Place.{Place}
use Rattle.kn_lex.specs.declared.lexeme.Context.{Context}
use Rattle.kn_lex.specs.declared.lexeme.Context.TheVariants.{LineStart, WithinLine, CommentBody}
use Rattle.kn_lex.specs.declared.fault.LexFault.{LexFault}
use Rattle.kn_lex.specs.declared.fault.LexFault.TheVariants.{NotText, BadString, BadToken, Float, Regex}
use Rattle.kn_lex.specs.declared.fault.LexFault.TheVariants.{Number as NumberFault, Blank}

-- one byte of a literal
abbrev pub quote_step : Quote → ℕ → Step
quote_step Opening byte = if byte == 34 then Go Plain else Fail
quote_step Plain byte =
    if byte == 34 then Close
    else if byte == 92 then Go Escaped
    else if byte == 10 || byte == 13 then Fail
    else Go Plain
quote_step Escaped byte = if byte == 13 then Go Returned else if byte == 10 then Go Joined else Go Plain
quote_step Returned byte = if byte == 10 then Go Joined else Fail
quote_step Joined byte =
    if byte == 34 then Close
    else if byte == 92 then Go Escaped
    else if byte == 32 || byte == 9 || byte == 13 || byte == 10 then Go Joined
    else Go Plain

abbrev pub more_len : ℕ → Option ℕ → Option ℕ
more_len n None = None
more_len n (Some k) = Some (n + k)

abbrev pub len_after : Step → (Quote → Option ℕ) → Option ℕ
len_after Fail go = None
len_after Close go = Some 1
len_after (Go quote) go = more_len 1 (go quote)

-- how many bytes a literal has up to its closing quote
unfoldable pub quote_len : Quote → List ℕ → Option ℕ
quote_len quote [] = None
quote_len quote (byte ∷ bytes) = len_after (quote_step quote byte) (λ next. quote_len next bytes)

unfoldable pub white_len : List ℕ → ℕ
white_len [] = 0
white_len (byte ∷ bytes) = if byte == 10 then 1 else if is_gap byte then 1 + white_len bytes else 0

unfoldable pub colon_len : List ℕ → Option ℕ
colon_len [] = None
colon_len (byte ∷ bytes) =
    if byte == 58 then Some 1 else if continues_label byte then more_len 1 (colon_len bytes) else None

abbrev pub label_len : List ℕ → Option ℕ
label_len [] = None
label_len (byte ∷ bytes) = if is_letter byte then colon_len (byte ∷ bytes) else None

unfoldable pub body_len : List ℕ → ℕ
body_len [] = 0
body_len (byte ∷ bytes) = if byte == 10 && not (is_continuation bytes) then 0 else 1 + body_len bytes

abbrev pub sign_len : List ℕ → Option ℕ
sign_len [] = None
sign_len (byte ∷ []) = if is_short_sign byte then Some 1 else None
sign_len (byte ∷ next ∷ bytes) = if is_long_sign byte next then Some 2 else if is_short_sign byte then Some 1 else None

abbrev pub with_sort : Sort → Option ℕ → Option (Lexeme × ℕ)
with_sort sort None = None
with_sort sort (Some n) = Some (Token sort, n)

abbrev pub line_len : List ℕ → ℕ
line_len bytes = prefix_len (λ byte. not (byte == 10)) bytes

abbrev pub word_lexeme : Option ℕ → List ℕ → Option (Lexeme × ℕ)
word_lexeme None bytes = Some (Token Name, prefix_len continues_name bytes)
word_lexeme (Some n) bytes = Some (Token Label, n)

unfoldable pub plain_lexeme : Bool → List ℕ → Option (Lexeme × ℕ)
plain_lexeme first [] = None
plain_lexeme first (byte ∷ bytes) =
    if is_white byte then Some (White, white_len (byte ∷ bytes))
    else if byte == 35 then Some (Comment, line_len (byte ∷ bytes))
    else if begins_name byte then word_lexeme (if first then label_len (byte ∷ bytes) else None) (byte ∷ bytes)
    else if is_digit byte then Some (Token Number, prefix_len is_digit (byte ∷ bytes))
    else if byte == 34 then with_sort Text (quote_len Opening (byte ∷ bytes))
    else with_sort Sign (sign_len (byte ∷ bytes))

abbrev pub lexeme_at : Context → List ℕ → Option (Lexeme × ℕ)
lexeme_at LineStart left = plain_lexeme true left
lexeme_at WithinLine left = plain_lexeme false left
lexeme_at CommentBody left = Some (Token Body, body_len left)

-- what was found is the label or body that begins here; where nothing was, the lexeme here is the one within a line
abbrev pub IsFoundAt : Context → List ℕ → Option (Lexeme × ℕ) → Type 0
IsFoundAt context left found =
    MatchOption found (lexeme_at context left ≡ plain_lexeme false left) (λ p. lexeme_at context left ≡ Some p)

unfoldable pub stuck_fault : ℕ → List ℕ → Option LexFault
stuck_fault at [] = None
stuck_fault at (byte ∷ bytes) =
    if begins_foreign (byte ∷ bytes) then Some (NotText at)
    else if begins_quote (byte ∷ bytes) then Some (BadString at)
    else if begins_ampersand (byte ∷ bytes) then Some (Float at)
    else if begins_match (byte ∷ bytes) then Some (Regex at)
    else Some (BadToken at)

abbrev pub number_fault : ℕ → List ℕ → List ℕ → Option LexFault
number_fault at digits rest =
    if begins_fraction rest then Some (Float at)
    else if nat_lt WHOLE_NUMBER (digits_value digits) then Some (NumberFault at)
    else None

-- the place of the first byte 0
unfoldable pub zero_place : List ℕ → Option ℕ
zero_place [] = None
zero_place (byte ∷ bytes) = if byte == 0 then Some 0 else more_len 1 (zero_place bytes)

abbrev pub zero_fault : ℕ → Option ℕ → Option LexFault
zero_fault at None = None
zero_fault at (Some k) = Some (NotText (at + k))

abbrev pub is_number : Lexeme → Bool
is_number (Token Number) = true
is_number lexeme = false

abbrev pub lexeme_fault : ℕ → Lexeme → List ℕ → List ℕ → Option LexFault
lexeme_fault at lexeme bytes rest =
    if is_number lexeme then number_fault at bytes rest else zero_fault at (zero_place bytes)

abbrev pub fault_by : ℕ → List ℕ → Option (Lexeme × ℕ) → Option LexFault
fault_by at left None = stuck_fault at left
fault_by at left (Some p) = lexeme_fault at p.0 (take p.1 left) (drop p.1 left)

abbrev pub is_bad_blank : Place → List ℕ → Bool
is_bad_blank place left = is_line_start place.context && place.has_token && is_blank left && goes_on false left

-- the first fault that this place shows
abbrev pub fault_at : Place → ℕ → List ℕ → Option LexFault
fault_at place at left =
    if is_bad_blank place left then Some (Blank at) else fault_by at left (lexeme_at place.context left)
