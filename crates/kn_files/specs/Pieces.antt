-- The pieces of a policy file, which are the texts of its assertions (keynoted's own).
use Rattle.std.specs.Prelude.{◌≡◌, ◌⊎◌, ℕ, ◌+◌, ◌-◌, ◌≤◌, ◌<◌, Bool, true, false, ◌||◌, ◌==◌, List, [], ◌∷◌, length}
use Rattle.std.specs.Prelude.{map, filter, flat_map, take, drop}
use Rattle.std.specs.List.{slice_split, list_any}
use Rattle.kn_base.specs.declared.span.Span.{Span}
use Rattle.kn_lex.specs.Cutting.{ends_line}
use Rattle.kn_lex.specs.Faults.{goes_on}
use Rattle.kn_files.specs.Lines.{Line, lines_of, place_lines, is_cut}
use Rattle.kn_files.specs.declared.within.Within.TheVariants.{Plain}

-- The text has a token or a lexical fault: a byte that is neither white space nor in a comment, or a byte 0.
abbrev pub is_assertion : List ℕ → Bool
is_assertion text = goes_on false text || list_any (λ byte. 0 == byte) text

-- the bytes of lines
abbrev pub text_of : List Line → List ℕ
text_of lines = flat_map (λ line. line.bytes) lines

-- from the first byte of the first line to the end of the last one
abbrev pub span_of : List Line → Span
span_of [] = record { start = 0; end = 0 }
span_of (line ∷ lines) = record { start = line.start; end = line.start + length (text_of (line ∷ lines)) }

-- Where the assertions of a file stand: its lines are cut at the blank ones, and what has neither a token nor
-- a fault is left out.
unfoldable pub spans_of : List ℕ → List Span
spans_of file =
    map span_of (filter (λ lines. is_assertion (text_of lines))
    (slice_split is_cut (place_lines Plain 0 (lines_of file))))

-- the bytes at a span
abbrev pub bytes_at : List ℕ → Span → List ℕ
bytes_at file span = take (span.end - span.start) (drop span.start file)

-- the texts of the assertions of a file, in their order
abbrev pub pieces_of : List ℕ → List (List ℕ)
pieces_of file = map (bytes_at file) (spans_of file)

-- the span has some bytes, and they are in the file
pub record IsWithin (file : List ℕ) (span : Span) : Type 0 where
  pub some : span.start < span.end
  pub within : span.end ≤ length file

-- the spans stand in their order from this place on, each has some bytes, and none touches the next
abbrev pub StandApart : ℕ → List Span → Type 0
StandApart from [] = Unit {0}
StandApart from (span ∷ spans) = (from ≤ span.start) × (span.start < span.end) × StandApart (span.end + 1) spans

-- the file begins or ends at the place, or a newline stands before it
abbrev pub IsLineBreak : List ℕ → ℕ → Type 0
IsLineBreak file place = (place ≡ 0) ⊎ (place ≡ length file) ⊎ (ends_line (take place file) ≡ true)

-- the span has whole lines
pub record HasWholeLines (file : List ℕ) (span : Span) : Type 0 where
  pub begins : IsLineBreak file span.start
  pub ends : IsLineBreak file span.end
