-- A text without lexical faults isn't cut between its tokens.
use Rattle.std.proofs.Common.{◌≡◌, ℕ, true, false, Bool, ◌+◌, ◌⊎◌, inl, inr, List, [], ◌∷◌, ◌++◌, Some, length, take}
use Rattle.std.proofs.Common.{drop, arith, refl, sym, ◌∙◌, ap, subst, append-nil, append_assoc, length-append}
use Rattle.std.proofs.Common.{take-append-drop}
use Rattle.std.specs.Prelude.{not, ◌&&◌, ◌||◌, ◌==◌, codes, if◌then◌else◌}
use Rattle.std.proofs.lemmas.Bool.{false≢true}
use Rattle.std.proofs.lemmas.Bool.Decides.{nat_tests}
use Rattle.std.proofs.lemmas.List.{append_cancel_right, drop-drop, length-take-le}
use Rattle.std.proofs.lemmas.List.Folds.{list_any-append}
use Rattle.kn_base.specs.declared.span.Span.{Span}
use Rattle.kn_lex.specs.Spelling.{is_blank, SpellsPlain}
use Rattle.kn_lex.specs.Cutting.{start as text_start, ends_line, is_comment_label, context_after, IsLexeme, Reaches}
use Rattle.kn_lex.specs.Cutting.{place_after, TokenView, Cuts}
use Rattle.kn_lex.specs.Faults.{goes_on, IsFaultless}
use Rattle.kn_lex.specs.Scanning.{lexeme_at, fault_by}
use Rattle.kn_lex.specs.declared.token.Sort.{Sort}
use Rattle.kn_lex.specs.declared.token.Sort.TheVariants.{Label}
use Rattle.kn_lex.specs.declared.lexeme.Lexeme.{Lexeme}
use Rattle.kn_lex.specs.declared.lexeme.Lexeme.TheVariants.{White, Comment as CommentLexeme, Token}
use Rattle.kn_lex.specs.declared.lexeme.Place.{Place}
use Rattle.kn_lex.specs.declared.lexeme.Context.{Context}
use Rattle.kn_lex.specs.declared.lexeme.Context.TheVariants.{LineStart, WithinLine, CommentBody}
use Rattle.kn_lex.specs.declared.fault.LexFault.TheVariants.{Blank}
use Rattle.kn_lex.proofs.ScannedLengths.{both, choice}
use Rattle.kn_lex.proofs.Lexemes.{lexeme_is}
use Rattle.kn_lex.proofs.Scans.{is_blank-cons}
use Rattle.kn_lex.proofs.OneLexing.{IsClean}
use Rattle.kn_lex.proofs.LexerStates.{IsReached, IsFinished, reached_start, reached_step, every_cutting, one_list}
use Rattle.kn_files.specs.Lines.{lines_of, is_line, are_lines, bytes_of_lines, after_line, is_literal}
use Rattle.kn_files.specs.Pieces.{is_assertion, spans_of}
use Rattle.kn_files.specs.Splitting.{span_if}
use Rattle.kn_files.specs.declared.within.Within.{Within}
use Rattle.kn_files.specs.declared.within.Within.TheVariants.{Plain, Body}
use Rattle.kn_files.proofs.Splitting.{spans_from, spans_whole, joined_lines, are_lines_of_file, first_line, more_lines}
use Rattle.kn_files.proofs.Splitting.{AreWhole, AreWholeBefore, none_whole, whole_behind}
use Rattle.kn_files.proofs.LeftOut.{either_false, AreUntold, quiet_along, unblank, comment_len, IsSilentBefore}
use Rattle.kn_files.proofs.LeftOut.{silent_before, silent_whole, kept, left_out}
use Rattle.kn_files.proofs.AtCuts.{AtCuts, FromLine, FromHere, FromPlace, line_on, white_on, comment_whole, body_on}
use Rattle.kn_files.proofs.AtCuts.{steady_on, starts_alike, label_bytes_steady, token_on, comment_label, label_piece}

-- one piece on

sort_context : (first : Bool) (sort : Sort) (bytes : List ℕ) → SpellsPlain first (Token sort) bytes
    → (first ≡ true → is_comment_label bytes ≡ false)
    → context_after (Token sort) bytes ≡ WithinLine
sort_context first sort bytes h n = grind arith

piece_on : (P : List ℕ → Type 0) (context : Context) (first : Bool) (piece : Lexeme) (n : ℕ) (left : List ℕ)
    → (context ≡ CommentBody → ⊥) → IsLexeme context left piece n
    → SpellsPlain first piece (take n left) → (first ≡ true → is_comment_label (take n left) ≡ false)
    → FromPlace P (context_after piece (take n left)) (drop n left) → FromHere P Plain left
piece_on P context first White n left o cut s label h = grind (arith, take-append-drop, white_on)
piece_on P context first CommentLexeme n left o cut s label h =
    comment_whole P n left (comment_len context left n o cut s) s h
piece_on P context first (Token sort) n left o cut s label h =
    subst (FromHere P Plain) (take-append-drop n left)
    (token_on P first sort (take n left) (drop n left) s
    (subst (λ (k : Context). FromPlace P k (drop n left)) (sort_context first sort (take n left) s label) h))

line_start : (P : List ℕ → Type 0) (p : Lexeme × ℕ) (left : List ℕ) → IsLexeme LineStart left p.0 p.1
    → (is_blank left ≡ true → P left)
    → FromPlace P (context_after p.0 (take p.1 left)) (drop p.1 left) → FromLine P Plain left
line_start P p left cut blank h =
    line_on P Plain left blank
    (rw (starts_alike (codes "Comment:") left refl) (by (is_comment_label (take 8 left)) refl))
  where
    by : (b : Bool) → is_comment_label (take 8 left) ≡ b → FromHere P (if b then Body else Plain) left
    by true e =
        let label : Some p ≡ Some (Token Label, 8) = sym (lexeme_is LineStart left p.0 p.1 cut) ∙ label_piece left e in
        let same : p ≡ (Token Label, 8) = cc in
        let behind : FromPlace P (context_after (Token Label) (take 8 left)) (drop 8 left) =
        subst (λ (q : Lexeme × ℕ). FromPlace P (context_after q.0 (take q.1 left)) (drop q.1 left)) same h in
        subst (FromHere P Body) (take-append-drop 8 left)
        (steady_on P Body (take 8 left) (drop 8 left) (λ c t. refl)
        (label_bytes_steady (take 8 left) (comment_label (take 8 left) e).1) (rw e at behind))
    by false e = piece_on P LineStart true p.0 p.1 left (λ k. absurd (cc)) cut cut.spelled
        (λ _. other (is_comment_label (take p.1 left)) refl) h
      where
        other : (b : Bool) → is_comment_label (take p.1 left) ≡ b → b ≡ false
        other true t =
            let size : p.1 ≡ 8 = sym (length-take-le p.1 left cut.within) ∙ (comment_label (take p.1 left) t).0 in
            sym t ∙ ap (λ (k : ℕ). is_comment_label (take k left)) size ∙ e
        other false t = refl

-- at a cut either nothing is left that tells, or nothing stood before

abbrev IsApart : List ℕ → List ℕ → Type 0
IsApart text left = (is_assertion left ≡ false) ⊎ IsSilentBefore text left

told_along : (pieces : List (Lexeme × ℕ)) (place : Place) (text : List ℕ) (end : Place) (left : List ℕ)
    → Reaches place text pieces end left → end.has_token ≡ false
    → (place.has_token ≡ false) × AreUntold pieces
told_along [] place text end left h e = (ap (λ (p : Place). p.has_token) h.0 ∙ e, tt)
told_along (p ∷ ps) place text end left h e =
    grind (arith, told_along ps (place_after place p.0 (take p.1 text)) (drop p.1 text) end left h.1 e)

blank_apart : (text left : List ℕ) (has_token : Bool) (at : ℕ) (tokens : List TokenView) (pieces : List (Lexeme
    × ℕ)) (end : Place)
    (p : Lexeme × ℕ)
    → IsReached text (record { context = LineStart; has_token = has_token }) at tokens → left ≡ drop at text
    → Reaches (record { context = LineStart; has_token = has_token }) left (p ∷ pieces) end []
    → IsClean (record { context = LineStart; has_token = has_token }) at left (p ∷ pieces)
    → is_blank left ≡ true → IsApart text left
blank_apart text left true at tokens pieces end p r e h c blank =
    let over : goes_on false left ≡ false =
    rw blank at (unblank (is_blank left && goes_on false left) (Blank at)
    (fault_by at left (lexeme_at LineStart left)) c.0).0 in
    let place : Place = record { context = LineStart; has_token = true } in
    inl (silent_whole (p ∷ pieces) place at left end h (λ k. absurd (cc))
    (quiet_along (p ∷ pieces) place left end [] h (λ k. absurd (cc)) over).0 c)
blank_apart text left false at tokens pieces end p r e h c blank = grind (arith, told_along, silent_before)

apart_at : (text left : List ℕ) (context : Context) (has_token : Bool) (at : ℕ) (tokens : List TokenView)
    (pieces : List (Lexeme × ℕ)) (end : Place) (p : Lexeme × ℕ)
    → IsReached text (record { context = context; has_token = has_token }) at tokens → left ≡ drop at text
    → Reaches (record { context = context; has_token = has_token }) left (p ∷ pieces) end []
    → IsClean (record { context = context; has_token = has_token }) at left (p ∷ pieces)
    → FromPlace (IsApart text) (context_after p.0 (take p.1 left)) (drop p.1 left)
    → FromPlace (IsApart text) context left
apart_at text left LineStart has_token at tokens pieces end p r e h c rest =
    line_start (IsApart text) p left h.0 (blank_apart text left has_token at tokens pieces end p r e h c) rest
apart_at text left WithinLine has_token at tokens pieces end p r e h c rest =
    piece_on (IsApart text) WithinLine false p.0 p.1 left (λ k. absurd (cc)) h.0 h.0.spelled
    (λ k. absurd (false≢true k)) rest
apart_at text left CommentBody has_token at tokens pieces end p r e h c rest =
    grind (arith, lexeme_is CommentBody left p.0 p.1, body_on (IsApart text) left)

apart_along : (text : List ℕ) (pieces : List (Lexeme × ℕ)) (place : Place) (at : ℕ) (left : List ℕ) (end : Place)
    (tokens : List TokenView) → IsReached text place at tokens
    → left ≡ drop at text → Reaches place left pieces end [] → IsClean place at left pieces
    → FromPlace (IsApart text) place.context left
unfolding lines_of
apart_along text [] place at left end tokens r e h c = grind arith
apart_along text (p ∷ ps) place at left end tokens r e h c =
    let bytes : List ℕ = take p.1 left in
    let next : Place = place_after place p.0 bytes in
    let step = reached_step text left bytes place next at tokens _ p r e refl (lexeme_is place.context left p.0 p.1 h.0)
    c.0 refl refl in
    apart_at text left place.context place.has_token at tokens ps end p r e h c
    (apart_along text ps next (at + p.1) (drop p.1 left) end _ step (ap (drop p.1) e ∙ drop-drop p.1 at text) h.1 c.1)

-- whether lines tell something

goes_on_lines : (commented : Bool) (xs ys : List ℕ) → ends_line xs ≡ true
    → goes_on commented (xs ++ ys) ≡ (goes_on commented xs || goes_on false ys)
goes_on_lines commented [] ys e = absurd (false≢true e)
goes_on_lines commented (c ∷ []) ys e = grind arith
goes_on_lines true (c ∷ d ∷ ds) ys e = goes_on_lines (not (c == 10)) (d ∷ ds) ys e
goes_on_lines false (c ∷ d ∷ ds) ys e = grind (arith, nat_tests, goes_on_lines (c == 35) (d ∷ ds) ys)

assertion_append : (xs ys : List ℕ) → AreWhole xs → is_assertion (xs ++ ys) ≡ (is_assertion xs || is_assertion ys)
assertion_append xs ys w = grind (arith, goes_on_lines, list_any-append)

assertion_joined : (xs : List ℕ) (lines : List (List ℕ)) → AreWholeBefore lines xs
    → is_assertion (xs ++ bytes_of_lines lines) ≡ (is_assertion xs || is_assertion (bytes_of_lines lines))
assertion_joined xs lines w = grind (arith, append-nil, assertion_append)

blank_line : (line : List ℕ) → is_line line ≡ true → is_blank line ≡ true → is_assertion line ≡ false
blank_line [] l e = refl
blank_line (c ∷ []) l e = grind (arith, nat_tests, is_blank-cons)
blank_line (c ∷ d ∷ ds) l e = grind (arith, nat_tests, is_blank-cons c (d ∷ ds), blank_line (d ∷ ds))

-- how many assertions there are

abbrev count_of : Bool → ℕ
count_of true = 1
count_of false = 0

count_if : (start : ℕ) (front : List ℕ) → length (span_if start front) ≡ count_of (is_assertion front)
count_if start front = grind arith

count_or : (x y : Bool) → (x ≡ false) ⊎ (y ≡ false) → count_of x + count_of y ≡ count_of (x || y)
count_or x y e = grind arith

count_cut : (text : List ℕ) (line : List ℕ) (lines : List (List ℕ)) (before front : List ℕ)
    → are_lines (line ∷ lines) ≡ true → is_blank line ≡ true
    → text ≡ before ++ bytes_of_lines (line ∷ lines) → AreWhole front
    → (is_assertion before ≡ false → is_assertion front ≡ false) → IsApart text (bytes_of_lines (line ∷ lines))
    → count_of (is_assertion front) + count_of (is_assertion (bytes_of_lines lines))
    ≡ count_of (is_assertion (front ++ bytes_of_lines (line ∷ lines)))
count_cut text line lines before front l blank e w silent apart =
    count_or (is_assertion front) (is_assertion (bytes_of_lines lines)) (by apart)
    ∙ ap count_of (ap (λ (b : Bool). is_assertion front || b) (sym behind)
    ∙ sym (assertion_append front (bytes_of_lines (line ∷ lines)) w))
  where
    behind : is_assertion (bytes_of_lines (line ∷ lines)) ≡ is_assertion (bytes_of_lines lines)
    behind = assertion_joined line lines (whole_behind [] line lines l)
        ∙ rw (blank_line line (first_line line lines l) blank) refl

    by : IsApart text (bytes_of_lines (line ∷ lines)) → (is_assertion front ≡ false)
        ⊎ (is_assertion (bytes_of_lines lines) ≡ false)
    by (inl none) = inr (sym behind ∙ none)
    by (inr s) =
        let same : before ≡ s.front = append_cancel_right before s.front (bytes_of_lines (line ∷ lines)) (sym e
        ∙ s.whole) in
        inl (silent (ap is_assertion same ∙ rw (s.quiet, s.no_zero) refl))

count : (text : List ℕ) (lines : List (List ℕ)) (before front : List ℕ) (start : ℕ) (within : Within)
    → are_lines lines ≡ true → text ≡ before ++ bytes_of_lines lines
    → AreWholeBefore lines before → AreWholeBefore lines front
    → (is_assertion before ≡ false → is_assertion front ≡ false) → AtCuts (IsApart text) within lines
    → length (spans_from start front within lines) ≡ count_of (is_assertion (front ++ bytes_of_lines lines))
count text [] before front start within l e b f silent at = count_if start front
    ∙ ap (λ (bs : List ℕ). count_of (is_assertion bs)) (sym (append-nil front))
count text (line ∷ lines) before front start within l e b f silent at =
    choice (λ spans. length spans ≡ count_of (is_assertion (front ++ bytes_of_lines (line ∷ lines))))
    (not (is_literal within) && is_blank line)
    (span_if start front ++ behind) (spans_from start (front ++ line) (after_line within line) lines)
    (λ t.
    let size = length-append (span_if start front) behind in
    let cut = count text lines (before ++ line) [] (start + length front + length line) (after_line within line) more
    whole (whole_behind before line lines l) (none_whole lines) (λ _. refl) at.1 in
    let sum = count_cut text line lines before front l (both (not (is_literal within)) (is_blank line) t).1 e f silent
    (at.0 t) in
    omega (arith, size, count_if start front, cut, sum))
    (λ _.
    count text lines (before ++ line) (front ++ line) start (after_line within line) more whole
    (whole_behind before line lines l) (whole_behind front line lines l) longer at.1
    ∙ ap (λ (bs : List ℕ). count_of (is_assertion bs)) (append_assoc front line (bytes_of_lines lines)))
  where
    behind : List Span
    behind = spans_from (start + length front + length line) [] (after_line within line) lines

    more : are_lines lines ≡ true
    more = more_lines line lines l

    whole : text ≡ (before ++ line) ++ bytes_of_lines lines
    whole = e ∙ sym (append_assoc before line (bytes_of_lines lines))

    longer : is_assertion (before ++ line) ≡ false → is_assertion (front ++ line) ≡ false
    longer n =
        let parts = either_false (is_assertion before) (is_assertion line) (sym (assertion_append before line b) ∙ n) in
        assertion_append front line f ∙ rw (silent parts.0, parts.1) refl

count_spans : (text : List ℕ) (tokens : List TokenView) → IsFinished text tokens
    → length (spans_of text) ≡ count_of (is_assertion text)
count_spans text tokens h =
    let whole = joined_lines text in
    ap length (spans_whole text)
    ∙ count text (lines_of text) [] [] 0 Plain (are_lines_of_file text) (sym whole) (none_whole (lines_of text))
    (none_whole (lines_of text)) (λ e. e)
    (apart_along text h.lexemes text_start 0 text h.end [] (reached_start text) refl h.reached h.clean)
    ∙ ap (λ (bs : List ℕ). count_of (is_assertion bs)) whole

faultless_count : (text : List ℕ) → IsFaultless text → length (spans_of text) ≡ count_of (is_assertion text)
faultless_count text faultless =
    elim (every_cutting text) [ inl h ↦ count_spans text h.0 h.1 | inr h ↦ absurd (faultless h.0 h.1.has) ]

pub no_spans : (text : List ℕ) → Cuts text [] → IsFaultless text → spans_of text ≡ []
no_spans text cuts faultless =
    by (spans_of text) (faultless_count text faultless ∙ ap count_of (kept text cuts faultless))
  where
    by : (spans : List Span) → length spans ≡ 0 → spans ≡ []
    by [] e = refl
    by (span ∷ spans) e = absurd (omega (arith, e))

-- a text with tokens is one assertion
pub one_span : (text : List ℕ) (token : TokenView) (tokens : List TokenView) → Cuts text (token ∷ tokens)
    → IsFaultless text
    → length (spans_of text) ≡ 1
one_span text token tokens cuts faultless = faultless_count text faultless ∙ ap count_of (by (is_assertion text) refl)
  where
    by : (b : Bool) → is_assertion text ≡ b → b ≡ true
    by true e = refl
    by false e = let none = one_list text [] (token ∷ tokens) (left_out text e).0 cuts in absurd (cc)
