-- A file by its lines: which of them are in a span, and what a comment does to the lines behind it (keynoted's own).
use Rattle.std.specs.Prelude.{◌≡◌, ◌⊎◌, ℕ, ◌+◌, ◌≤◌, Bool, true, false, List, [], ◌∷◌, ◌++◌, length, take, Contains}
use Rattle.std.specs.List.{list_all, list_any}
use Rattle.kn_base.specs.declared.span.Span.{Span}
use Rattle.kn_lex.specs.Spelling.{is_continuation}
use Rattle.kn_lex.specs.Cutting.{is_comment_label}
use Rattle.kn_files.specs.Lines.{Line, lines_of, place_lines, is_cut, is_literal}
use Rattle.kn_files.specs.Pieces.{is_assertion, text_of, span_of}
use Rattle.kn_files.specs.declared.within.Within.TheVariants.{Plain}

-- the lines of a file, each with its place and what it begins in
abbrev pub lines_in : List ℕ → List Line
lines_in file = place_lines Plain 0 (lines_of file)

-- there are no lines, or the last one is blank and begins outside literals
abbrev pub ends_at_cut : List Line → Bool
ends_at_cut [] = true
ends_at_cut (line ∷ []) = is_cut line
ends_at_cut (line ∷ next ∷ lines) = ends_at_cut (next ∷ lines)

-- there are no lines, or the first one is blank and begins outside literals
abbrev pub begins_at_cut : List Line → Bool
begins_at_cut [] = true
begins_at_cut (line ∷ lines) = is_cut line

-- lines of the file in a row, none of which is blank and begins outside literals, from one such line or the beginning
-- up to the next one or the end
pub record IsParagraph (file : List ℕ) (lines : List Line) : Type 0 where
  pub before : List Line
  pub behind : List Line
  pub here : lines_in file ≡ before ++ lines ++ behind
  pub whole : list_any is_cut lines ≡ false
  pub begins : ends_at_cut before ≡ true
  pub ends : begins_at_cut behind ≡ true

-- the span is that of a paragraph which is an assertion
pub record IsOfParagraph (file : List ℕ) (span : Span) : Type 0 where
  pub lines : List Line
  pub paragraph : IsParagraph file lines
  pub assertion : is_assertion (text_of lines) ≡ true
  pub same : span ≡ span_of lines

-- the line is one of a paragraph
pub record IsOfLines (file : List ℕ) (line : Line) : Type 0 where
  pub lines : List Line
  pub paragraph : IsParagraph file lines
  pub one : Contains lines line

-- each byte of the line is in the span
abbrev pub HasLine : Span → Line → Type 0
HasLine span line = (span.start ≤ line.start) × (line.start + length line.bytes ≤ span.end)

-- no byte of the line is in the span
abbrev pub LacksLine : Span → Line → Type 0
LacksLine span line = (line.start + length line.bytes ≤ span.start) ⊎ (span.end ≤ line.start)

-- lines in a row, of which the first begins outside literals with the label of a comment, and each further one goes
-- on with its body
abbrev pub AreOfComment : List Line → Type 0
AreOfComment [] = ⊥
AreOfComment (line ∷ lines) =
    (is_literal line.within ≡ false) × (is_comment_label (take 8 line.bytes) ≡ true)
    × (list_all (λ further. is_continuation further.bytes) lines ≡ true)
