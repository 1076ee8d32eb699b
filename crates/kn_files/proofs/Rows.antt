-- The paragraphs of a file are the parts between its cuts.
use Rattle.std.proofs.Common.{◌≡◌, ℕ, zero, suc, true, false, Bool, ◌+◌, ◌<◌, ◌≤◌, inl, inr, List, [], ◌∷◌, ◌++◌, All}
use Rattle.std.proofs.Common.{length, take, get_or, map, arith, refl, sym, ◌∙◌, ap, subst, append-nil, append_assoc}
use Rattle.std.proofs.Common.{if◌then◌else◌, length-append}
use Rattle.std.specs.Prelude.{filter, fold, Contains}
use Rattle.std.specs.List.{slice_split, list_any, list_all}
use Rattle.std.proofs.Math.Seq.{take-append_seam}
use Rattle.std.proofs.lemmas.Bool.{false≢true}
use Rattle.std.proofs.lemmas.Grind.{flat_map-append}
use Rattle.std.proofs.lemmas.List.{map-append}
use Rattle.std.proofs.lemmas.List.Elements.{All-nil, All-cons, All-map, All-filter, All-head, All-tail, All-contains}
use Rattle.std.proofs.lemmas.List.Elements.{All-weaker, filter_passes, filter-append, Contains-append_left}
use Rattle.std.proofs.lemmas.List.Elements.{Contains-append_right, Contains-append_cases}
use Rattle.std.proofs.lemmas.List.Folds.{list_any-append}
use Rattle.kn_base.specs.declared.span.Span.{Span}
use Rattle.kn_lex.specs.Spelling.{is_continuation}
use Rattle.kn_lex.specs.Cutting.{ends_line, is_comment_label}
use Rattle.kn_lex.proofs.ScannedLengths.{choice}
use Rattle.kn_files.specs.Lines.{Line, lines_of, are_lines, bytes_of_lines, place_lines, is_cut, is_literal, after_byte}
use Rattle.kn_files.specs.Lines.{after_line}
use Rattle.kn_files.specs.Pieces.{text_of, span_of, spans_of, IsWithin, IsLineBreak, HasWholeLines}
use Rattle.kn_files.specs.Paragraphs.{lines_in, ends_at_cut, begins_at_cut, IsParagraph, IsOfParagraph, IsOfLines}
use Rattle.kn_files.specs.Paragraphs.{HasLine, LacksLine, AreOfComment}
use Rattle.kn_files.specs.declared.within.Within.{Within}
use Rattle.kn_files.specs.declared.within.Within.TheVariants.{Plain, Body}
use Rattle.kn_files.proofs.Splitting.{parts_from, parts_whole, is_kept, chosen, spans_apart, joined_lines}
use Rattle.kn_files.proofs.Splitting.{assertion_some, are_lines_of_file, more_lines, AreWhole, AreWholeBefore}
use Rattle.kn_files.proofs.Splitting.{none_whole, whole_behind}
use Rattle.kn_files.proofs.LeftOut.{either_false}

ends_push : (xs : List Line) (x : Line) → ends_at_cut (xs ++ x ∷ []) ≡ is_cut x
ends_push [] x = refl
ends_push (y ∷ []) x = refl
ends_push (y ∷ z ∷ xs) x = ends_push (z ∷ xs) x

uncut_push : (xs : List Line) (x : Line) → list_any is_cut xs ≡ false → is_cut x ≡ false
    → list_any is_cut (xs ++ x ∷ []) ≡ false
uncut_push xs x e f = list_any-append is_cut xs (x ∷ []) ∙ rw (e, f) refl

cut_behind : (before held xs : List Line) (x : Line) → before ++ (held ++ x ∷ xs) ≡ ((before ++ held) ++ x ∷ []) ++ xs
cut_behind before held xs x = sym (append_assoc before held (x ∷ xs)) ∙ sym (append_assoc (before ++ held) (x ∷ []) xs)

line_held : (before held xs : List Line) (x : Line) → before ++ (held ++ x ∷ xs) ≡ before ++ ((held ++ x ∷ []) ++ xs)
line_held before held xs x = ap (λ ls. before ++ ls) (sym (append_assoc held (x ∷ []) xs))

-- each part is a paragraph
paragraphs : (file : List ℕ) (xs before held : List Line) → lines_in file ≡ before ++ (held ++ xs)
    → ends_at_cut before ≡ true → list_any is_cut held ≡ false
    → All (IsParagraph file) (parts_from held xs)
paragraphs file [] before held here begins whole = grind (arith, append_assoc)
paragraphs file (x ∷ xs) before held here begins whole =
    choice (All (IsParagraph file)) (is_cut x) (held ∷ parts_from [] xs) (parts_from (held ++ x ∷ []) xs)
    (λ cut. All-cons (IsParagraph file) held (parts_from [] xs)
    (record {
      before = before;
      behind = x ∷ xs;
      here = here ∙ sym (append_assoc before held (x ∷ xs));
      whole = whole;
      begins = begins;
      ends = cut;
    })
    (paragraphs file xs ((before ++ held) ++ x ∷ []) [] (here ∙ cut_behind before held xs x)
    (ends_push (before ++ held) x ∙ cut) refl))
    (λ on. paragraphs file xs before (held ++ x ∷ []) (here ∙ line_held before held xs x) begins
    (uncut_push held x whole on))

all_spans : (file : List ℕ) → All (IsOfParagraph file) (spans_of file)
unfolding spans_of
all_spans file = subst (λ parts. All (IsOfParagraph file) (chosen parts)) (sym (parts_whole (lines_in file)))
    (All-map (IsOfParagraph file) span_of kept each)
  where
    kept : List (List Line)
    kept = filter is_kept (parts_from [] (lines_in file))

    each : All (λ lines. IsOfParagraph file (span_of lines)) kept
    each k d h = record {
      lines = get_or kept k d;
      paragraph = All-filter is_kept (IsParagraph file) (parts_from [] (lines_in file))
          (paragraphs file (lines_in file) [] [] refl refl refl) k d h;
      assertion = filter_passes is_kept (parts_from [] (lines_in file)) k d h;
      same = refl;
    }

pub only_span : (file : List ℕ) (span : Span) → Contains (spans_of file) span → IsOfParagraph file span
only_span file span i = All-contains (IsOfParagraph file) (spans_of file) span (all_spans file) i

-- each paragraph is a part
record HasPart (parts : List (List Line)) (part : List Line) : Type 0 where
  front : List (List Line)
  back : List (List Line)
  here : parts ≡ front ++ part ∷ back

part_behind : (first : List Line) (parts : List (List Line)) (part : List Line) → HasPart parts part
    → HasPart (first ∷ parts) part
part_behind first parts part h = record { front = first ∷ h.front; back = h.back; here = ap (λ ls. first ∷ ls) h.here }

first_part : (lines held behind : List Line) → list_any is_cut lines ≡ false → begins_at_cut behind ≡ true
    → HasPart (parts_from held (lines ++ behind)) (held ++ lines)
first_part [] held [] whole ends = record { front = []; back = []; here = ap (λ ls. ls ∷ []) (sym (append-nil held)) }
first_part [] held (y ∷ ys) whole ends =
    rw ends (record {
      front = [];
      back = parts_from [] ys;
      here =
          ap (λ ls. ls ∷ parts_from [] ys) (sym (append-nil held));
    })
first_part (x ∷ lines) held behind whole ends = grind (arith, either_false, append_assoc, first_part lines)

later_part : (x : Line) (before held lines behind : List Line) → ends_at_cut (x ∷ before) ≡ true
    → list_any is_cut lines ≡ false → begins_at_cut behind ≡ true
    → HasPart (parts_from held ((x ∷ before) ++ (lines ++ behind))) lines
later_part x [] held lines behind begins whole ends =
    rw begins (part_behind held (parts_from [] (lines ++ behind)) lines (first_part lines [] behind whole ends))
later_part x (y ∷ before) held lines behind begins whole ends =
    grind (
      arith,
      part_behind,
      later_part y before [] lines behind begins whole,
      later_part y before (held ++ x ∷ []) lines behind begins whole,
    )

paragraph_part : (before lines behind : List Line) → list_any is_cut lines ≡ false → ends_at_cut before ≡ true
    → begins_at_cut behind ≡ true
    → HasPart (parts_from [] (before ++ (lines ++ behind))) lines
paragraph_part [] lines behind whole begins ends = first_part lines [] behind whole ends
paragraph_part (x ∷ before) lines behind whole begins ends = later_part x before [] lines behind begins whole ends

pub each_span : (file : List ℕ) (lines : List Line) → IsParagraph file lines → is_kept lines ≡ true
    → Contains (spans_of file) (span_of lines)
unfolding spans_of
each_span file lines p kept =
    let part = paragraph_part p.before lines p.behind p.whole p.begins p.ends in
    let same : slice_split is_cut (lines_in file) ≡ part.front ++ lines ∷ part.back =
    parts_whole (lines_in file) ∙ ap (parts_from []) (p.here ∙ append_assoc p.before lines p.behind) ∙ part.here in
    subst (λ spans. Contains spans (span_of lines))
    (sym (ap chosen same ∙ ap (map span_of) (filter-append is_kept part.front (lines ∷ part.back))
    ∙ map-append span_of (filter is_kept part.front) (filter is_kept (lines ∷ part.back))))
    (Contains-append_right (chosen part.front) (chosen (lines ∷ part.back)) (span_of lines)
    (rw kept (0, omega arith, refl)))

-- an element stands between two parts of the list
record Split (xs : List Line) (line : Line) : Type 0 where
  before : List Line
  behind : List Line
  here : xs ≡ before ++ line ∷ behind

split_at : (xs : List Line) (line : Line) → Contains xs line → Split xs line
split_at xs line i = by xs i.0 i.1 i.2
  where
    by : (xs : List Line) (k : ℕ) → k < length xs → get_or xs k line ≡ line → Split xs line
    by [] k h e = absurd (omega arith)
    by (x ∷ xs) zero h e = record { before = []; behind = xs; here = ap (λ l. l ∷ xs) e }
    by (x ∷ xs) (suc k) h e = let s = by xs k (omega arith) e in
        record { before = x ∷ s.before; behind = s.behind; here = ap (λ ls. x ∷ ls) s.here }

-- the first part goes on with the lines held
first_goes_on : (P : List Line → Type 0) (xs held : List Line) → All P (parts_from held xs) → (more : List Line)
    × P (held ++ more)
first_goes_on P [] held all = ([], subst P (sym (append-nil held)) (All-head P held [] all))
first_goes_on P (x ∷ xs) held all = by (is_cut x) all (first_goes_on P xs (held ++ x ∷ []))
  where
    by : (b : Bool) → All P (if b then held ∷ parts_from [] xs else parts_from (held ++ x ∷ []) xs)
        → (All P (parts_from (held ++ x ∷ []) xs) → (more : List Line) × P ((held ++ x ∷ []) ++ more))
        → (more : List Line) × P (held ++ more)
    by true all rest = ([], subst P (sym (append-nil held)) (All-head P held (parts_from [] xs) all))
    by false all rest = let next = rest all in (x ∷ next.0, subst P (append_assoc held (x ∷ []) next.0) next.1)

-- each line that doesn't cut is in a paragraph
in_paragraphs : (file : List ℕ) (xs held : List Line) → All (IsParagraph file) (parts_from held xs)
    → All (λ line. is_cut line ≡ false → IsOfLines file line) xs
in_paragraphs file [] held all = All-nil (λ line. is_cut line ≡ false → IsOfLines file line)
in_paragraphs file (x ∷ xs) held all = by (is_cut x) refl all (in_paragraphs file xs)
  where
    by : (b : Bool) → is_cut x ≡ b
        → All (IsParagraph file) (if b then held ∷ parts_from [] xs else parts_from (held ++ x ∷ []) xs)
        → ((lines : List Line) → All (IsParagraph file) (parts_from lines xs)
        → All (λ line. is_cut line ≡ false → IsOfLines file line) xs)
        → All (λ line. is_cut line ≡ false → IsOfLines file line) (x ∷ xs)
    by true cut all rest =
        All-cons (λ line. is_cut line ≡ false → IsOfLines file line) x xs (λ on. absurd (false≢true (sym on ∙ cut)))
        (rest [] (All-tail (IsParagraph file) held (parts_from [] xs) all))
    by false on all rest =
        let first = first_goes_on (IsParagraph file) xs (held ++ x ∷ []) all in
        All-cons (λ line. is_cut line ≡ false → IsOfLines file line) x xs
        (λ _. record {
          lines = (held ++ x ∷ []) ++ first.0;
          paragraph = first.1;
          one =
              Contains-append_left (held ++ x ∷ []) first.0 x
              (Contains-append_right held (x ∷ []) x (0, omega arith, refl));
        })
        (rest (held ++ x ∷ []) all)

pub line_paragraph : (file : List ℕ) (line : Line) → Contains (lines_in file) line → is_cut line ≡ false
    → IsOfLines file line
line_paragraph file line i =
    grind (arith, in_paragraphs file (lines_in file) [], paragraphs file (lines_in file) [] [] refl refl)

-- where the lines stand

record Placed (at : ℕ) (rest : List Line) : Type 0 where
  within : Within
  lines : List (List ℕ)
  here : place_lines within at lines ≡ rest

skip : (before rest : List Line) (lines : List (List ℕ)) (within : Within) (at : ℕ)
    → place_lines within at lines ≡ before ++ rest → Placed (at + length (text_of before)) rest
skip [] rest lines within at e = record {
  within = within;
  lines = lines;
  here = let same : at + 0 ≡ at = omega arith in
      ap (λ k. place_lines within k lines) same ∙ e;
}
skip (x ∷ before) rest [] within at e = absurd (cc)
skip (x ∷ before) rest (bytes ∷ lines) within at e =
    grind (arith, length-append, skip before rest lines (after_line within bytes) (at + length bytes))

starts_at : (at : ℕ) (line : Line) (behind : List Line) → Placed at (line ∷ behind) → line.start ≡ at
starts_at at line behind p = by p.lines p.here
  where
    by : (lines : List (List ℕ)) → place_lines p.within at lines ≡ line ∷ behind → line.start ≡ at
    by [] e = absurd (cc)
    by (bytes ∷ lines) e = let own : record { within = p.within; start = at; bytes = bytes } ≡ line = cc in
        ap (λ (l : Line). l.start) (sym own)

line_stands : (file : List ℕ) (before behind : List Line) (line : Line) → lines_in file ≡ before ++ line ∷ behind
    → line.start ≡ length (text_of before)
line_stands file before behind line e =
    let start = starts_at (0 + length (text_of before)) line behind
    (skip before (line ∷ behind) (lines_of file) Plain 0 e) in omega (arith, start)

size_join : (a b : List Line) → length (text_of (a ++ b)) ≡ length (text_of a) + length (text_of b)
size_join a b = ap length (flat_map-append (λ (line : Line). line.bytes) a b) ∙ length-append (text_of a) (text_of b)

size_split : (a b : List Line) (line : Line) → length (text_of (a ++ line ∷ b)) ≡ length (text_of a) + length line.bytes
    + length (text_of b)
size_split a b line = omega (arith, size_join a (line ∷ b), length-append line.bytes (text_of b))

span_stands : (file : List ℕ) (before lines behind : List Line) → lines_in file ≡ before ++ (lines ++ behind)
    → 0 < length lines
    → ((span_of lines).start ≡ length (text_of before))
    × ((span_of lines).end ≡ length (text_of before) + length (text_of lines))
span_stands file before lines behind here some = grind (arith, line_stands)

-- where a line stands in the front of the file, and where in the rest
in_front : (file : List ℕ) (front rest : List Line) (line : Line) → lines_in file ≡ front ++ rest → Contains front line
    → line.start + length line.bytes ≤ length (text_of front)
in_front file front rest line here i = grind (arith, split_at front line i, line_stands file, append_assoc, size_split)

in_rest : (file : List ℕ) (front rest : List Line) (line : Line) → lines_in file ≡ front ++ rest → Contains rest line
    → length (text_of front) ≤ line.start
in_rest file front rest line here i =
    grind (arith, split_at rest line i, line_stands file, append_assoc front, size_join front)

pub line_inside : (file : List ℕ) (lines : List Line) (line : Line) → IsParagraph file lines → Contains lines line
    → HasLine (span_of lines) line
line_inside file lines line p i =
    let here = p.here ∙ append_assoc p.before lines p.behind in
    let span = span_stands file p.before lines p.behind here (omega (arith, i.1)) in
    let from = in_rest file p.before (lines ++ p.behind) line here (Contains-append_left lines p.behind line i) in
    let to = in_front file (p.before ++ lines) p.behind line p.here (Contains-append_right p.before lines line i) in
    (omega (arith, span.0, from), omega (arith, span.1, to, size_join p.before lines))

uncut_lacks : (lines : List Line) (line : Line) → list_any is_cut lines ≡ false → is_cut line ≡ true
    → Contains lines line → ⊥
uncut_lacks lines line whole cut i =
    grind (arith, split_at lines line i, either_false, list_any-append is_cut, either_false (is_cut line))

kept_some : (lines : List Line) → is_kept lines ≡ true → 0 < length lines
kept_some [] kept = absurd (false≢true kept)
kept_some (line ∷ lines) kept = omega arith

pub blank_outside : (file : List ℕ) (line : Line) (span : Span) → Contains (lines_in file) line → is_cut line ≡ true
    → Contains (spans_of file) span → LacksLine span line
blank_outside file line span i cut found =
    let o = only_span file span found in
    let p = o.paragraph in
    let here = p.here ∙ append_assoc p.before o.lines p.behind in
    let stands = span_stands file p.before o.lines p.behind here (kept_some o.lines o.assertion) in
    subst (λ s. LacksLine s line) (sym o.same)
    (elim (Contains-append_cases (p.before ++ o.lines) p.behind line (subst (λ ls. Contains ls line) p.here i)) [
      | inl j ↦ elim (Contains-append_cases p.before o.lines line j) [
        | inl k ↦ inl (omega (arith, stands.0, in_front file p.before (o.lines ++ p.behind) line here k))
        | inr k ↦ absurd (uncut_lacks o.lines line p.whole cut k)
      ]
      | inr j ↦ inr (omega (
        arith,
        stands.1,
        size_join p.before o.lines,
        in_rest file (p.before ++ o.lines) p.behind line p.here j,
      ))
    ])

-- the spans are in the file and have whole lines

text_whole : (lines : List (List ℕ)) (within : Within) (at : ℕ)
    → text_of (place_lines within at lines) ≡ bytes_of_lines lines
text_whole [] within at = refl
text_whole (line ∷ lines) within at =
    ap (λ text. line ++ text) (text_whole lines (after_line within line) (at + length line))

text_in : (file : List ℕ) (before behind : List Line) → lines_in file ≡ before ++ behind
    → file ≡ text_of before ++ text_of behind
text_in file before behind here =
    grind (
      arith,
      joined_lines,
      text_whole (lines_of file) Plain,
      flat_map-append (λ (line : Line). line.bytes) before behind,
    )

whole_front : (lines : List (List ℕ)) (within : Within) (at : ℕ) (xs : List ℕ) (before : List Line) (y : Line)
    (ys : List Line) → place_lines within at lines ≡ before ++ y ∷ ys
    → are_lines lines ≡ true → AreWholeBefore lines xs → AreWhole (xs ++ text_of before)
whole_front [] within at xs [] y ys e l w = absurd (cc)
whole_front [] within at xs (x ∷ before) y ys e l w = absurd (cc)
whole_front (line ∷ lines) within at xs [] y ys e l w = subst AreWhole (sym (append-nil xs)) w
whole_front (line ∷ lines) within at xs (x ∷ before) y ys e l w =
    grind (
      arith,
      append_assoc,
      more_lines,
      whole_behind,
      whole_front lines (after_line within line) (at + length line) (xs ++ line) before y ys,
    )

line_break : (file : List ℕ) (before behind : List Line) → lines_in file ≡ before ++ behind
    → IsLineBreak file (length (text_of before))
line_break file before [] here = inr (inl (ap length (sym (text_in file before [] here ∙ append-nil (text_of before)))))
line_break file before (y ∷ ys) here =
    by (whole_front (lines_of file) Plain 0 [] before y ys here (are_lines_of_file file) (none_whole (lines_of file)))
  where
    by : AreWhole (text_of before) → IsLineBreak file (length (text_of before))
    by (inl e) = inl (ap length e)
    by (inr e) =
        inr (inr (ap ends_line (ap (take (length (text_of before))) (text_in file before (y ∷ ys) here)
        ∙ take-append_seam (text_of before) (text_of (y ∷ ys))) ∙ e))

span_within : (file : List ℕ) (span : Span) → IsOfParagraph file span → IsWithin file span × HasWholeLines file span
span_within file span o =
    let p = o.paragraph in
    let here = p.here ∙ append_assoc p.before o.lines p.behind in
    let stands = span_stands file p.before o.lines p.behind here (kept_some o.lines o.assertion) in
    let some = assertion_some (text_of o.lines) o.assertion in
    let join = size_join p.before o.lines in
    let size = ap length (text_in file (p.before ++ o.lines) p.behind p.here)
    ∙ length-append (text_of (p.before ++ o.lines)) (text_of p.behind) in
    grind (arith, line_break)

pub spans_within : (file : List ℕ) → All (IsWithin file) (spans_of file)
spans_within file =
    All-weaker (IsOfParagraph file) (IsWithin file) (λ span o. (span_within file span o).0) (spans_of file)
    (all_spans file)

pub spans_whole_lines : (file : List ℕ) → All (HasWholeLines file) (spans_of file)
spans_whole_lines file = All-weaker (IsOfParagraph file) (HasWholeLines file) (λ span o. (span_within file span o).1)
    (spans_of file) (all_spans file)

-- a comment's lines lead to no literal

label_line : (within : Within) (bytes : List ℕ) → is_literal within ≡ false → is_comment_label (take 8 bytes) ≡ true
    → after_line within bytes ≡ Body
unfolding after_line
label_line within bytes outside label = grind arith

body_line : (bytes : List ℕ) → is_continuation bytes ≡ true → after_line Body bytes ≡ Body
unfolding after_line
body_line bytes on = grind arith

body_goes_on : (comment : List Line) (lines : List (List ℕ)) (within : Within) (at : ℕ) (next : Line)
    (behind : List Line) → place_lines within at lines ≡ comment ++ next ∷ behind
    → within ≡ Body → list_all (λ further. is_continuation further.bytes) comment ≡ true → next.within ≡ Body
body_goes_on [] [] within at next behind e body all = absurd (cc)
body_goes_on (further ∷ comment) [] within at next behind e body all = absurd (cc)
body_goes_on [] (bytes ∷ lines) within at next behind e body all = grind arith
body_goes_on (further ∷ comment) (bytes ∷ lines) within at next behind e body all =
    grind (arith, body_line, body_goes_on comment lines (after_line within bytes) (at + length bytes) next behind)

pub comment_opens_nothing : (file : List ℕ) (before comment : List Line) (next : Line) (behind : List Line)
    → lines_in file ≡ before ++ comment ++ next ∷ behind
    → AreOfComment comment → is_literal next.within ≡ false
comment_opens_nothing file before [] next behind here c = absurd c
comment_opens_nothing file before (line ∷ comment) next behind here c =
    let p = skip before (line ∷ (comment ++ next ∷ behind)) (lines_of file) Plain 0 (here
    ∙ append_assoc before (line ∷ comment) (next ∷ behind)) in
    ap is_literal (by (0 + length (text_of before)) p.within p.lines p.here)
  where
    by : (at : ℕ) (within : Within) (lines : List (List ℕ))
        → place_lines within at lines ≡ line ∷ (comment ++ next ∷ behind)
        → next.within ≡ Body
    by at within [] e = absurd (cc)
    by at within (bytes ∷ lines) e =
        let own : record { within = within; start = at; bytes = bytes } ≡ line = cc in
        let rest : place_lines (after_line within bytes) (at + length bytes) lines ≡ comment ++ next ∷ behind = cc in
        body_goes_on comment lines (after_line within bytes) (at + length bytes) next behind rest
        (ap (λ (l : Line). after_line l.within l.bytes) own ∙ label_line line.within line.bytes c.0 c.1) c.2

-- other lines

pub body_ends : (line : List ℕ) → is_continuation line ≡ false → is_comment_label (take 8 line) ≡ false
    → after_line Body line ≡ fold after_byte Plain line
unfolding after_line
body_ends line over label = rw (label, over) refl

pub other_line : (within : Within) (line : List ℕ) → is_literal within ≡ false → (within ≡ Body → ⊥)
    → is_comment_label (take 8 line) ≡ false
    → after_line within line ≡ fold after_byte Plain line
unfolding after_line
other_line within line outside other label = grind arith

pub open_line : (within : Within) (line : List ℕ) → is_literal within ≡ true
    → after_line within line ≡ fold after_byte within line
unfolding after_line
open_line within line inside = grind arith

pub ruleset span_facts = (spans_within, spans_apart, spans_whole_lines)

pub ruleset paragraph_facts = (each_span, only_span, line_paragraph)

pub ruleset comment_facts = (comment_opens_nothing, body_ends, other_line, open_line)
