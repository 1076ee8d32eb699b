-- The lines of a policy file, and what each begins in (keynoted's own, on the words of RFC 2704, section 4).
use Rattle.std.specs.Prelude.{ℕ, ◌+◌, Bool, true, false, not, ◌&&◌, ◌||◌, ◌==◌, List, [], ◌∷◌, ◌++◌, length, take, fold}
use Rattle.std.specs.Prelude.{if◌then◌else◌}
use Rattle.std.specs.List.{onto_first}
use Rattle.kn_lex.specs.Spelling.{is_blank, is_continuation}
use Rattle.kn_lex.specs.Cutting.{ends_line, is_comment_label}
use Rattle.kn_lex.specs.Scanning.{quote_step}
use Rattle.kn_lex.specs.declared.quote.Quote.TheVariants.{Plain as Inside}
use Rattle.kn_lex.specs.declared.quote.Step.{Step}
use Rattle.kn_lex.specs.declared.quote.Step.TheVariants.{Fail, Close, Go}
use Rattle.kn_files.specs.declared.within.Within.{Within}
use Rattle.kn_files.specs.declared.within.Within.TheVariants.{Plain, Comment, Body, Literal}

-- the lines of a file, each with its newline
unfoldable pub lines_of : List ℕ → List (List ℕ)
lines_of [] = []
lines_of (byte ∷ bytes) = if byte == 10 then (byte ∷ []) ∷ lines_of bytes else onto_first byte (lines_of bytes)

-- some bytes, of which none but the last is a newline
abbrev pub is_line : List ℕ → Bool
is_line [] = false
is_line (byte ∷ []) = true
is_line (byte ∷ next ∷ bytes) = not (byte == 10) && is_line (next ∷ bytes)

-- lines, of which each but the last ends with a newline
abbrev pub are_lines : List (List ℕ) → Bool
are_lines [] = true
are_lines (line ∷ []) = is_line line
are_lines (line ∷ next ∷ lines) = is_line line && ends_line line && are_lines (next ∷ lines)

-- the bytes of lines
abbrev pub bytes_of_lines : List (List ℕ) → List ℕ
bytes_of_lines [] = []
bytes_of_lines (line ∷ lines) = line ++ bytes_of_lines lines

-- what a byte leads into that stands outside comments and literals
abbrev pub after_plain : ℕ → Within
after_plain byte = if byte == 34 then Literal Inside else if byte == 35 then Comment else Plain

-- a literal that doesn't go on with a byte ends before it
abbrev pub after_step : Step → ℕ → Within
after_step Fail byte = after_plain byte
after_step Close byte = Plain
after_step (Go quote) byte = Literal quote

abbrev pub after_byte : Within → ℕ → Within
after_byte Plain byte = after_plain byte
after_byte Comment byte = Comment
after_byte Body byte = Body
after_byte (Literal quote) byte = after_step (quote_step quote byte) byte

-- a line ends comments and bodies, and a literal goes on where an escaped newline ends the line
abbrev pub at_line_start : Within → Within
at_line_start (Literal quote) = Literal quote
at_line_start within = Plain

-- the line begins with the label of a comment, or goes on with its body
abbrev pub is_of_comment : Within → List ℕ → Bool
is_of_comment (Literal quote) line = false
is_of_comment Body line = is_comment_label (take 8 line) || is_continuation line
is_of_comment within line = is_comment_label (take 8 line)

-- what the next line begins in; quotes have no meaning in a comment's body
unfoldable pub after_line : Within → List ℕ → Within
after_line within line = if is_of_comment within line then Body else fold after_byte (at_line_start within) line

abbrev pub is_literal : Within → Bool
is_literal (Literal quote) = true
is_literal within = false

-- a line of a file, the place of its first byte, and what it begins in
pub record Line : Type 0 where
  pub within : Within
  pub start : ℕ
  pub bytes : List ℕ

-- the lines one behind the other, the first at this place
abbrev pub place_lines : Within → ℕ → List (List ℕ) → List Line
place_lines within at [] = []
place_lines within at (line ∷ lines) =
    record { within = within; start = at; bytes = line } ∷ place_lines (after_line within line) (at + length line) lines

-- the line is blank and no literal is open where it begins
abbrev pub is_cut : Line → Bool
is_cut line = not (is_literal line.within) && is_blank line.bytes
