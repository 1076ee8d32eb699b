-- The lines of a file, and its spans, line by line.
use Rattle.std.proofs.Common.{◌≡◌, ℕ, ◌⊎◌, ◌+◌, ◌<◌, ◌≤◌, List, [], ◌∷◌, length, take, drop, arith, refl, sym}
use Rattle.std.proofs.Common.{if◌then◌else◌, true, false, Bool, ◌-◌, ◌++◌, map, ◌∙◌, ap, append-nil, append_assoc}
use Rattle.std.proofs.Common.{length-append, subst}
use Rattle.std.specs.Prelude.{◌==◌, not, ◌&&◌, filter}
use Rattle.std.specs.List.{slice_split, onto_first}
use Rattle.std.proofs.Math.Seq.{take-add}
use Rattle.std.proofs.lemmas.Grind.{flat_map-append}
use Rattle.std.proofs.lemmas.List.{drop_all, drop-drop, length-drop, length-take-le}
use Rattle.std.proofs.lemmas.Bool.{false≢true}
use Rattle.kn_base.specs.declared.span.Span.{Span}
use Rattle.kn_lex.specs.Scanning.{line_len}
use Rattle.kn_lex.specs.Spelling.{is_blank}
use Rattle.kn_lex.specs.Cutting.{ends_line}
use Rattle.kn_lex.proofs.Scans.{take_next, drop_next}
use Rattle.kn_files.specs.Lines.{lines_of, Line, bytes_of_lines, place_lines, is_cut, is_literal, after_line, is_line}
use Rattle.kn_files.specs.Lines.{are_lines}
use Rattle.kn_files.specs.Pieces.{is_assertion, text_of, span_of, spans_of, StandApart}
use Rattle.kn_files.specs.Paragraphs.{lines_in}
use Rattle.kn_files.specs.Splitting.{span_if, settle_comment}
use Rattle.kn_files.specs.declared.within.Within.{Within}
use Rattle.kn_files.specs.declared.within.Within.TheVariants.{Plain}

-- how many bytes the first line has
unfoldable pub line_size : List ℕ → ℕ
line_size [] = 0
line_size (byte ∷ bytes) = if byte == 10 then 1 else 1 + line_size bytes

pub size_within : (bytes : List ℕ) (n : ℕ) → n ≡ line_len bytes → n < length bytes → line_size bytes ≡ n + 1
unfolding line_size
size_within [] n e h = absurd (omega (arith, h))
size_within (c ∷ cs) n e h = grind (arith, size_within cs (line_len cs) refl)

pub size_at_end : (bytes : List ℕ) (n : ℕ) → n ≡ line_len bytes → length bytes ≤ n → line_size bytes ≡ n
unfolding line_size
size_at_end [] n e h = sym e
size_at_end (c ∷ cs) n e h = grind (arith, size_at_end cs (line_len cs) refl)

first_cut : (c : ℕ) (cs : List ℕ)
    → lines_of (c ∷ cs) ≡ take (line_size (c ∷ cs)) (c ∷ cs) ∷ lines_of (drop (line_size (c ∷ cs)) (c ∷ cs))
unfolding line_size lines_of
first_cut c [] = grind arith
first_cut c (d ∷ ds) = grind (arith, first_cut d ds, take_next, drop_next)

pub line_size_whole : (xs : List ℕ) (n : ℕ) → line_size xs ≡ n → 0 < length xs
    → lines_of xs ≡ take n xs ∷ lines_of (drop n xs)
line_size_whole [] n e h = absurd (omega arith)
line_size_whole (c ∷ cs) n e h = rw (← e) (first_cut c cs)

-- the spans of what is left, where a piece began before
abbrev pub spans_from : ℕ → List ℕ → Within → List (List ℕ) → List Span
spans_from start front within [] = span_if start front
spans_from start front within (line ∷ lines) =
    if not (is_literal within) && is_blank line
    then span_if start front ++ spans_from (start + length front + length line) [] (after_line within line) lines
    else spans_from start (front ++ line) (after_line within line) lines

-- the parts between the cuts, where these lines of the first part were before
abbrev pub parts_from : List Line → List Line → List (List Line)
parts_from held [] = held ∷ []
parts_from held (line ∷ lines) =
    if is_cut line then held ∷ parts_from [] lines else parts_from (held ++ line ∷ []) lines

held_first : (first : Line) (lines held : List Line)
    → onto_first first (parts_from held lines) ≡ parts_from (first ∷ held) lines
held_first first [] held = refl
held_first first (line ∷ lines) held = grind (arith, held_first first lines (held ++ line ∷ []))

pub parts_whole : (lines : List Line) → slice_split is_cut lines ≡ parts_from [] lines
parts_whole [] = refl
parts_whole (line ∷ lines) = grind (arith, parts_whole lines, held_first line lines [])

abbrev pub is_kept : List Line → Bool
is_kept lines = is_assertion (text_of lines)

abbrev pub chosen : List (List Line) → List Span
chosen parts = map span_of (filter is_kept parts)

-- the lines begin at this place and have these bytes
IsHeld : List Line → ℕ → List ℕ → Type 0
IsHeld [] start front = [] ≡ front
IsHeld (line ∷ lines) start front = (line.start ≡ start) × (text_of (line ∷ lines) ≡ front)

chosen-cons : (held : List Line) (start : ℕ) (front : List ℕ) (parts : List (List Line)) → IsHeld held start front
    → chosen (held ∷ parts) ≡ span_if start front ++ chosen parts
unfolding IsHeld
chosen-cons held start front parts h = grind arith

held_more : (held : List Line) (start at : ℕ) (front : List ℕ) (line : Line) → IsHeld held start front
    → line.start ≡ start + length front
    → IsHeld (held ++ line ∷ []) start (front ++ line.bytes)
unfolding IsHeld
held_more [] start at front line h e = grind (arith, append-nil)
held_more (first ∷ lines) start at front line h e =
    grind (arith, flat_map-append (λ (l : Line). l.bytes) (first ∷ lines) (line ∷ []), append-nil)

spans_along : (lines : List (List ℕ)) (held : List Line) (start at : ℕ) (front : List ℕ) (within : Within)
    → IsHeld held start front → at ≡ start + length front
    → chosen (parts_from held (place_lines within at lines)) ≡ spans_from start front within lines
unfolding IsHeld
spans_along [] held start at front within h e = chosen-cons held start front [] h ∙ append-nil (span_if start front)
spans_along (line ∷ lines) held start at front within h e =
    grind (arith, held_more held start at front, length-append front, chosen-cons held start front, spans_along lines)

pub spans_whole : (file : List ℕ) → spans_of file ≡ spans_from 0 [] Plain (lines_of file)
unfolding spans_of IsHeld
spans_whole file = ap chosen (parts_whole (lines_in file)) ∙ spans_along (lines_of file) [] 0 0 [] Plain refl refl

-- what the loop keeps: the spans so far and those of what is left are those of the file
pub record IsSplit (file : List ℕ) (start at : ℕ) (within : Within) (spans : List Span) : Type 0 where
  pub order : start ≤ at
  pub inside : at ≤ length file
  pub whole : spans ++ spans_from start (take (at - start) (drop start file)) within (lines_of (drop at file))
      ≡ spans_of file

pub split_start : (file : List ℕ) → IsSplit file 0 0 Plain []
split_start file = record { order = omega arith; inside = omega arith; whole = sym (spans_whole file) }

pub split_end : (file : List ℕ) (start at : ℕ) (within : Within) (spans new : List Span)
    → IsSplit file start at within spans → length file ≤ at
    → new ≡ spans ++ span_if start (take (at - start) (drop start file)) → new ≡ spans_of file
unfolding lines_of
split_end file start at within spans new h end e = grind (arith, drop_all)

-- a line is the front of what is left
pub record IsFirstLine (file : List ℕ) (at : ℕ) (rest line : List ℕ) (n : ℕ) : Type 0 where
  pub left : rest ≡ drop at file
  pub front : line ≡ take n rest
  pub size : n ≤ length rest
  pub cut : lines_of rest ≡ take n rest ∷ lines_of (drop n rest)

record IsNext (file : List ℕ) (at : ℕ) (line : List ℕ) : Type 0 where
  inside : at + length line ≤ length file
  front : take (length line) (drop at file) ≡ line
  cut : lines_of (drop at file) ≡ line ∷ lines_of (drop (at + length line) file)

next_line : (file : List ℕ) (at : ℕ) (rest line : List ℕ) (n : ℕ) → at ≤ length file → IsFirstLine file at rest line n
    → IsNext file at line
next_line file at rest line n within l = grind (arith, length-take-le, length-drop, drop-drop)

-- a line's end makes no difference between a comment and what stands outside
spans_settled : (start : ℕ) (front : List ℕ) (within : Within) (lines : List (List ℕ))
    → spans_from start front within lines ≡ spans_from start front (settle_comment within) lines
unfolding after_line
spans_settled start front within [] = refl
spans_settled start front within (line ∷ lines) = grind arith

-- one line on
split_next : (file line : List ℕ) (start at begin : ℕ) (within next : Within) (spans new : List Span)
    → IsSplit file start at within spans → IsNext file at line
    → begin ≤ at + length line → settle_comment next ≡ settle_comment (after_line within line)
    → new ++ spans_from begin (take (at + length line - begin) (drop begin file)) (after_line within line)
    (lines_of (drop (at + length line) file))
    ≡ spans ++ spans_from start (take (at - start) (drop start file)) within
    (line ∷ lines_of (drop (at + length line) file))
    → IsSplit file begin (at + length line) next new
split_next file line start at begin within next spans new h n order e step = grind (arith, spans_settled)

-- a line at which the file isn't cut
pub split_on : (file rest line : List ℕ) (start at n : ℕ) (within next : Within) (spans new : List Span)
    → IsSplit file start at within spans
    → IsFirstLine file at rest line n → (not (is_literal within) && is_blank line) ≡ false
    → settle_comment next ≡ settle_comment (after_line within line) → new ≡ spans
    → IsSplit file start (at + length line) next new
split_on file rest line start at n within next spans new h l test e same =
    let next_is = next_line file at rest line n h.inside l in
    let front : ℕ = at - start in
    let all : at + length line - start ≡ front + length line = let o = h.order in omega arith in
    let place : start + front ≡ at = let o = h.order in omega arith in
    let slice : take (at + length line - start) (drop start file) ≡ take front (drop start file) ++ line =
    ap (λ (k : ℕ). take k (drop start file)) all ∙ take-add front (length line) (drop start file)
    ∙ ap (λ (more : List ℕ). take front (drop start file) ++ more)
    (ap (take (length line)) (drop-drop front start file ∙ ap (λ (k : ℕ). drop k file) place) ∙ next_is.front) in
    split_next file line start at start within next spans new h next_is (omega (arith, h.order)) e
    (rw (same, slice, test) refl)

-- a blank line, at which the file is cut
pub split_cut : (file rest line : List ℕ) (start at n : ℕ) (within next : Within) (spans new : List Span)
    → IsSplit file start at within spans
    → IsFirstLine file at rest line n → (not (is_literal within) && is_blank line) ≡ true
    → settle_comment next ≡ settle_comment (after_line within line)
    → new ≡ spans ++ span_if start (take (at - start) (drop start file))
    → IsSplit file (at + length line) (at + length line) next new
split_cut file rest line start at n within next spans new h l test e pushed =
    let front : List ℕ = take (at - start) (drop start file) in
    let behind : List (List ℕ) = lines_of (drop (at + length line) file) in
    let none : at + length line - (at + length line) ≡ 0 = omega arith in
    let size : length front ≡ at - start =
    length-take-le (at - start) (drop start file) (omega (arith, length-drop start file, h.inside)) in
    let place : at + length line ≡ start + length front + length line = omega (arith, size, h.order) in
    split_next file line start at (at + length line) within next spans new h (next_line file at rest line n h.inside l)
    (omega arith) e
    (rw (pushed, none, test)
    (append_assoc spans (span_if start front) (spans_from (at + length line) [] (after_line within line) behind)
    ∙ ap (λ (k : ℕ). spans ++ (span_if start front ++ spans_from k [] (after_line within line) behind)) place))

-- an assertion has some bytes
pub assertion_some : (text : List ℕ) → is_assertion text ≡ true → 0 < length text
assertion_some [] e = absurd (cc)
assertion_some (byte ∷ bytes) e = omega arith

front_joined : (byte : ℕ) (lines : List (List ℕ)) → bytes_of_lines (onto_first byte lines) ≡ byte ∷ bytes_of_lines lines
front_joined byte lines = grind arith

pub joined_lines : (file : List ℕ) → bytes_of_lines (lines_of file) ≡ file
unfolding lines_of
joined_lines [] = refl
joined_lines (byte ∷ bytes) = grind (arith, joined_lines bytes, front_joined)

line_some : (line : List ℕ) → is_line line ≡ true → 0 < length line
line_some [] e = absurd (false≢true e)
line_some (byte ∷ bytes) e = omega arith

pub first_line : (line : List ℕ) (lines : List (List ℕ)) → are_lines (line ∷ lines) ≡ true → is_line line ≡ true
first_line line lines e = grind arith

pub more_lines : (line : List ℕ) (lines : List (List ℕ)) → are_lines (line ∷ lines) ≡ true → are_lines lines ≡ true
more_lines line lines e = grind arith

-- the lines of a file

newline_front : (byte : ℕ) (lines : List (List ℕ)) → (byte == 10) ≡ true → are_lines lines ≡ true
    → are_lines ((byte ∷ []) ∷ lines) ≡ true
newline_front byte lines t e = grind arith

byte_front : (byte : ℕ) (lines : List (List ℕ)) → (byte == 10) ≡ false → are_lines lines ≡ true
    → are_lines (onto_first byte lines) ≡ true
byte_front byte lines t e = grind arith

pub are_lines_of_file : (file : List ℕ) → are_lines (lines_of file) ≡ true
unfolding lines_of
are_lines_of_file [] = refl
are_lines_of_file (byte ∷ bytes) = grind (arith, are_lines_of_file bytes, newline_front, byte_front)

-- the last line may lack its newline
cut_last : (line : List ℕ) → is_line line ≡ true → lines_of line ≡ line ∷ []
unfolding lines_of
cut_last [] e = absurd (false≢true e)
cut_last (byte ∷ []) e = grind arith
cut_last (byte ∷ next ∷ bytes) e = grind (arith, cut_last (next ∷ bytes))

cut_line : (line rest : List ℕ) → is_line line ≡ true → ends_line line ≡ true
    → lines_of (line ++ rest) ≡ line ∷ lines_of rest
unfolding lines_of
cut_line [] rest e n = absurd (false≢true e)
cut_line (byte ∷ []) rest e n = grind arith
cut_line (byte ∷ next ∷ bytes) rest e n = grind (arith, cut_line (next ∷ bytes) rest)

pub lines_of_joined : (lines : List (List ℕ)) → are_lines lines ≡ true → lines_of (bytes_of_lines lines) ≡ lines
unfolding lines_of
lines_of_joined [] e = refl
lines_of_joined (line ∷ []) e = ap lines_of (append-nil line) ∙ cut_last line e
lines_of_joined (line ∷ next ∷ lines) e =
    grind (arith, cut_line line (bytes_of_lines (next ∷ lines)), lines_of_joined (next ∷ lines))

-- the spans stand apart

apart_if : (from start : ℕ) (text : List ℕ) (spans : List Span) → from ≤ start
    → ((k : ℕ) → k ≤ start + length text + 1 → StandApart k spans)
    → StandApart from (span_if start text ++ spans)
apart_if from start text spans le rest = grind (arith, assertion_some)

apart_along : (lines : List (List ℕ)) (from start : ℕ) (front : List ℕ) (within : Within) → from ≤ start
    → are_lines lines ≡ true
    → StandApart from (spans_from start front within lines)
apart_along [] from start front within le e = grind (arith, apart_if from start front [] le)
apart_along (line ∷ lines) from start front within le e =
    grind (
      arith,
      line_some,
      first_line,
      apart_if,
      more_lines,
      apart_along lines,
      apart_along lines from start (front ++ line) (after_line within line) le,
    )

pub spans_apart : (file : List ℕ) → StandApart 0 (spans_of file)
spans_apart file =
    subst (StandApart 0) (sym (spans_whole file))
    (apart_along (lines_of file) 0 0 [] Plain (omega arith) (are_lines_of_file file))

ends_line-append : (xs line : List ℕ) → is_line line ≡ true → ends_line (xs ++ line) ≡ ends_line line
ends_line-append [] line e = refl
ends_line-append (x ∷ []) line e = grind arith
ends_line-append (x ∷ y ∷ xs) line e = ends_line-append (y ∷ xs) line e

-- there are no bytes, or they end with a newline
abbrev pub AreWhole : List ℕ → Type 0
AreWhole xs = (xs ≡ []) ⊎ (ends_line xs ≡ true)

-- they are whole if lines follow them
abbrev pub AreWholeBefore : List (List ℕ) → List ℕ → Type 0
AreWholeBefore [] xs = Unit {0}
AreWholeBefore (line ∷ lines) xs = AreWhole xs

pub none_whole : (lines : List (List ℕ)) → AreWholeBefore lines []
none_whole lines = grind arith

pub whole_behind : (xs line : List ℕ) (lines : List (List ℕ)) → are_lines (line ∷ lines) ≡ true
    → AreWholeBefore lines (xs ++ line)
whole_behind xs line lines e = grind (arith, ends_line-append)

pub ruleset line_facts = (joined_lines, are_lines_of_file, lines_of_joined)

pub ruleset line_sizes = (size_within, size_at_end, line_size_whole)
