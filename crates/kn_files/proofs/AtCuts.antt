-- What holds at each line that cuts a file, byte by byte: white space, comments, bodies and tokens are passed.
use Rattle.std.proofs.Common.{◌≡◌, ℕ, zero, suc, true, false, Bool, ◌+◌, List, [], ◌∷◌, ◌++◌, Option, Some, None}
use Rattle.std.proofs.Common.{length, take, drop, arith, refl, sym, ◌∙◌, ap, subst, if◌then◌else◌}
use Rattle.std.specs.Prelude.{not, ◌&&◌, ◌||◌, ◌==◌, fold, nat_le}
use Rattle.std.specs.List.{onto_first, list_all}
use Rattle.std.specs.Char.{to_ascii_lowercase}
use Rattle.std.specs.Str.{str_eq_ignore_ascii_case, bytes_eq, str_to_ascii_lowercase}
use Rattle.std.proofs.Math.Numerals.{one-add}
use Rattle.std.proofs.lemmas.Bool.{false≢true}
use Rattle.std.proofs.lemmas.Bool.Decides.{nat_tests}
use Rattle.std.proofs.lemmas.List.{length-take}
use Rattle.std.proofs.Math.Seq.{drop-append_seam}
use Rattle.kn_base.specs.Decimal.{is_digit}
use Rattle.kn_lex.specs.Bytes.{is_gap, is_white, is_letter, begins_name, continues_name, continues_label}
use Rattle.kn_lex.specs.Spelling.{is_blank, is_continuation, is_white_space, is_comment, IsLiteral, is_run, is_label}
use Rattle.kn_lex.specs.Spelling.{is_label_tail, is_sign, SpellsPlain}
use Rattle.kn_lex.specs.Cutting.{context_after, is_comment_label}
use Rattle.kn_lex.specs.Scanning.{body_len, line_len, quote_len, quote_step, len_after, more_len, colon_len}
use Rattle.kn_lex.specs.Scanning.{plain_lexeme, lexeme_at}
use Rattle.kn_lex.specs.declared.quote.Quote.{Quote}
use Rattle.kn_lex.specs.declared.quote.Quote.TheVariants.{Opening}
use Rattle.kn_lex.specs.declared.quote.Step.{Step}
use Rattle.kn_lex.specs.declared.quote.Step.TheVariants.{Fail, Close, Go}
use Rattle.kn_lex.specs.declared.lexeme.Lexeme.TheVariants.{White, Token}
use Rattle.kn_lex.specs.declared.lexeme.Context.{Context}
use Rattle.kn_lex.specs.declared.lexeme.Context.TheVariants.{LineStart, WithinLine, CommentBody}
use Rattle.kn_lex.specs.declared.token.Sort.{Sort}
use Rattle.kn_lex.specs.declared.token.Sort.TheVariants.{Label, Body as BodySort, Name, Number, Text, Sign}
use Rattle.kn_lex.proofs.ScannedLengths.{both, same_byte, gap_white, choice, colon_found}
use Rattle.kn_lex.proofs.Scans.{is_blank-cons, take_next}
use Rattle.kn_lex.proofs.Literals.{literal_found}
use Rattle.kn_files.specs.Lines.{lines_of, bytes_of_lines, after_byte, after_line, at_line_start, is_of_comment}
use Rattle.kn_files.specs.Lines.{is_literal}
use Rattle.kn_files.specs.declared.within.Within.{Within}
use Rattle.kn_files.specs.declared.within.Within.TheVariants.{Plain, Comment, Body, Literal}
use Rattle.kn_files.proofs.Splitting.{line_size, line_size_whole, joined_lines}

-- at each line that cuts, this holds of what is left from that line on
abbrev pub AtCuts : (List ℕ → Type 0) → Within → List (List ℕ) → Type 0
AtCuts P within [] = Unit {0}
AtCuts P within (line ∷ lines) =
    ((not (is_literal within) && is_blank line) ≡ true → P (bytes_of_lines (line ∷ lines)))
    × AtCuts P (after_line within line) lines

-- so it does behind the rest of a line
abbrev pub Behind : (List ℕ → Type 0) → Within → List (List ℕ) → Type 0
Behind P within [] = Unit {0}
Behind P within (line ∷ lines) = AtCuts P (fold after_byte within line) lines

-- from the beginning of a line, and from within one
abbrev pub FromLine : (List ℕ → Type 0) → Within → List ℕ → Type 0
FromLine P within left = AtCuts P within (lines_of left)

abbrev pub FromHere : (List ℕ → Type 0) → Within → List ℕ → Type 0
FromHere P within left = Behind P within (lines_of left)

-- where a piece of the lexer begins
abbrev pub FromPlace : (List ℕ → Type 0) → Context → List ℕ → Type 0
FromPlace P LineStart left = FromLine P Plain left
FromPlace P WithinLine left = FromHere P Plain left
FromPlace P CommentBody left = FromHere P Body left

-- one byte on
byte_on : (P : List ℕ → Type 0) (within next : Within) (c : ℕ) (cs : List ℕ) → after_byte within c ≡ next
    → ((c == 10) ≡ true → FromLine P next cs)
    → ((c == 10) ≡ false → FromHere P next cs) → FromHere P within (c ∷ cs)
unfolding lines_of
byte_on P within next c cs e newline other = grind arith

-- the first line of what is left begins as it does

first_blank : (left : List ℕ) → is_blank (take (line_size left) left) ≡ is_blank left
unfolding line_size
first_blank [] = refl
first_blank (c ∷ cs) = grind (arith, nat_tests, first_blank cs, is_blank-cons, take_next)

first_continuation : (left : List ℕ) → is_continuation (take (line_size left) left) ≡ is_continuation left
unfolding line_size
first_continuation left = grind (arith, first_blank, take_next)

-- what the bytes of the first line stand in
abbrev begin : Within → List ℕ → Within
begin within line = if is_of_comment within line then Body else at_line_start within

body_stays : (bytes : List ℕ) → fold after_byte Body bytes ≡ Body
body_stays [] = refl
body_stays (c ∷ cs) = body_stays cs

begin_after : (within : Within) (line : List ℕ) → after_line within line ≡ fold after_byte (begin within line) line
unfolding after_line
begin_after within line = grind (arith, body_stays line)

pub line_on : (P : List ℕ → Type 0) (within : Within) (left : List ℕ)
    → ((not (is_literal within) && is_blank left) ≡ true → P left)
    → FromHere P (begin within (take (line_size left) left)) left → FromLine P within left
unfolding lines_of
line_on P within [] cut here = tt
line_on P within (c ∷ cs) cut here =
    subst (AtCuts P within) (sym whole) (
      λ e. subst P (sym (joined_lines (c ∷ cs))
          ∙ ap bytes_of_lines whole) (cut (ap (λ (b : Bool). not (is_literal within) && b) (sym (first_blank (c ∷ cs)))
          ∙ e)),
      subst (λ (w : Within). AtCuts P w (lines_of (drop (line_size (c ∷ cs)) (c ∷ cs)))) (sym (begin_after within line))
          (subst (Behind P (begin within line)) whole here),
    )
  where
    line : List ℕ
    line = take (line_size (c ∷ cs)) (c ∷ cs)

    whole : lines_of (c ∷ cs) ≡ line ∷ lines_of (drop (line_size (c ∷ cs)) (c ∷ cs))
    whole = line_size_whole (c ∷ cs) (line_size (c ∷ cs)) refl (omega arith)

-- the first line of what is left may be read otherwise, if it leads to the same
first_line_read : (P : List ℕ → Type 0) (other within : Within) (left : List ℕ) → is_literal within ≡ is_literal other
    → after_line within (take (line_size left) left) ≡ after_line other (take (line_size left) left)
    → FromLine P other left → FromLine P within left
unfolding lines_of
first_line_read P other within [] l e h = tt
first_line_read P other within (c ∷ cs) l e h = grind (arith, line_size_whole)

-- so may one behind a comment, and one behind a body with which it doesn't go on
behind_comment : (line : List ℕ) → after_line Comment line ≡ after_line Plain line
unfolding after_line
behind_comment line = refl

behind_body : (left : List ℕ) → is_continuation left ≡ false
    → after_line Body (take (line_size left) left) ≡ after_line Plain (take (line_size left) left)
unfolding after_line
behind_body left e = grind (arith, first_continuation left)

white_stays : (c : ℕ) → is_white c ≡ true → after_byte Plain c ≡ Plain
white_stays c e = grind (arith, nat_tests)

gap_in_line : (c : ℕ) → is_gap c ≡ true → (c == 10) ≡ true → ⊥
gap_in_line c e t = absurd (grind (arith, nat_tests))

-- white space, up to the end of its line
pub white_on : (P : List ℕ → Type 0) (bytes rest : List ℕ) → is_white_space bytes ≡ true
    → FromPlace P (context_after White bytes) rest → FromHere P Plain (bytes ++ rest)
white_on P [] rest e h = absurd (false≢true e)
white_on P (c ∷ []) rest e h = byte_on P Plain Plain c rest (white_stays c e) (λ t. rw t at h) (λ t. rw t at h)
white_on P (c ∷ d ∷ ds) rest e h =
    grind (
      arith,
      byte_on P Plain Plain c ((d ∷ ds) ++ rest),
      white_stays c,
      gap_white c,
      gap_in_line c,
      white_on P (d ∷ ds) rest,
    )

-- a comment, to the end of its line
comment_on : (P : List ℕ → Type 0) (left : List ℕ) → FromHere P Plain (drop (line_len left) left)
    → FromHere P Comment left
unfolding lines_of
comment_on P [] h = tt
comment_on P (c ∷ cs) h =
    byte_on P Comment Comment c cs refl
    (λ t. first_line_read P Plain Comment cs refl (behind_comment (take (line_size cs) cs))
    (rw (same_byte c 10 t) at h))
    (λ t. comment_on P cs (rw (t, one-add (line_len cs)) at h))

pub comment_whole : (P : List ℕ → Type 0) (n : ℕ) (left : List ℕ) → n ≡ line_len left → is_comment (take n left) ≡ true
    → FromHere P Plain (drop n left) → FromHere P Plain left
comment_whole P zero left size e h = h
comment_whole P (suc n) [] size e h = absurd (false≢true e)
comment_whole P (suc n) (c ∷ cs) size e h = grind (arith, byte_on P Plain Comment 35 cs refl, comment_on P cs)

continuation_blank : (left : List ℕ) → is_continuation left ≡ true → is_blank left ≡ true → ⊥
continuation_blank left e blank = grind arith

goes_on_body : (left : List ℕ) → is_continuation left ≡ true → begin Body (take (line_size left) left) ≡ Body
goes_on_body left e = grind (arith, first_continuation left)

-- the body of a comment, with the lines that go on with it
pub body_on : (P : List ℕ → Type 0) (left : List ℕ) → FromHere P Plain (drop (body_len left) left)
    → FromHere P Body left
unfolding lines_of body_len
body_on P [] h = tt
body_on P (c ∷ cs) h =
    byte_on P Body Body c cs refl
    (λ t. choice (λ (b : Bool). FromLine P Body cs) (is_continuation cs) true true
    (λ k. line_on P Body cs (λ blank. absurd (continuation_blank cs k blank))
    (rw (goes_on_body cs k) (body_on P cs (rw (t, k, one-add (body_len cs)) at h))))
    (λ k. first_line_read P Plain Body cs refl (behind_body cs k) (rw (same_byte c 10 t, k) at h)))
    (λ t. body_on P cs (rw (t, one-add (body_len cs)) at h))

-- bytes that end no line and open nothing
abbrev pub is_steady : ℕ → Bool
is_steady c = not (c == 10 || c == 34 || c == 35)

steady_in_line : (c : ℕ) → is_steady c ≡ true → (c == 10) ≡ true → ⊥
steady_in_line c e t = absurd (grind (arith, nat_tests))

pub steady_on : (P : List ℕ → Type 0) (within : Within) (bytes rest : List ℕ)
    → ((c : ℕ) → is_steady c ≡ true → after_byte within c ≡ within) → list_all is_steady bytes ≡ true
    → FromHere P within rest → FromHere P within (bytes ++ rest)
steady_on P within [] rest stays e h = h
steady_on P within (c ∷ cs) rest stays e h =
    grind (arith, byte_on P within within c (cs ++ rest), steady_in_line c, steady_on P within cs rest stays)

-- a literal goes over the ends of lines, and ends within one
closes_in_line : (quote : Quote) (c : ℕ) → quote_step quote c ≡ Close → (c == 10) ≡ true → ⊥
closes_in_line quote c e t = absurd (grind (arith, nat_tests))

pub quote_on : (P : List ℕ → Type 0) (quote : Quote) (left : List ℕ) (n : ℕ) → quote_len quote left ≡ Some n
    → FromHere P Plain (drop n left) → FromHere P (Literal quote) left
unfolding quote_len
quote_on P quote [] n e h = absurd (cc)
quote_on P quote (c ∷ cs) n e h = by (quote_step quote c) refl e (λ next m z left. quote_on P next cs m z left)
  where
    on : (next : Quote) → quote_step quote c ≡ Go next → (o : Option ℕ) → more_len 1 o ≡ Some n
        → ((m : ℕ) → o ≡ Some m → FromHere P Plain (drop m cs) → FromHere P (Literal next) cs)
        → FromHere P (Literal quote) (c ∷ cs)
    on next k None e rest = absurd (cc)
    on next k (Some m) e rest =
        let size : 1 + m ≡ n = cc in
        let more = rest m refl
        (rw (one-add m) at (subst (λ (k : ℕ). FromHere P Plain (drop k (c ∷ cs))) (sym size) h)) in
        byte_on P (Literal quote) (Literal next) c cs (rw k refl)
        (λ _. line_on P (Literal next) cs (λ e. absurd (false≢true e)) more) (λ _. more)

    by : (step : Step) → quote_step quote c ≡ step → len_after step (λ next. quote_len next cs) ≡ Some n
        → ((next : Quote) (m : ℕ) → quote_len next cs ≡ Some m → FromHere P Plain (drop m cs)
        → FromHere P (Literal next) cs) → FromHere P (Literal quote) (c ∷ cs)
    by Fail k e rest = absurd (cc)
    by Close k e rest =
        let size : 1 ≡ n = cc in
        byte_on P (Literal quote) Plain c cs (rw k refl) (λ t. absurd (closes_in_line quote c k t))
        (λ _. subst (λ (k : ℕ). FromHere P Plain (drop k (c ∷ cs))) (sym size) h)
    by (Go next) k e rest = on next k (quote_len next cs) e (rest next)

-- a text without newlines that the left begins with is in its first line
pub starts_alike : (wanted left : List ℕ) → list_all (λ byte. not (10 == to_ascii_lowercase byte)) wanted ≡ true
    → str_eq_ignore_ascii_case (take (length wanted) (take (line_size left) left)) wanted
    ≡ str_eq_ignore_ascii_case (take (length wanted) left) wanted
unfolding line_size
starts_alike [] left e = refl
starts_alike (d ∷ ds) [] e = refl
starts_alike (d ∷ ds) (c ∷ cs) e = grind (arith, nat_tests, starts_alike ds cs, take_next)

-- tokens other than literals have neither newlines nor quotes nor `#`

all_more : (p q : ℕ → Bool) (bytes : List ℕ) → ((c : ℕ) → p c ≡ true → q c ≡ true) → list_all p bytes ≡ true
    → list_all q bytes ≡ true
all_more p q [] h e = refl
all_more p q (c ∷ cs) h e = let parts = both (p c) (list_all p cs) e in rw (h c parts.0) (all_more p q cs h parts.1)

label_steady : (c : ℕ) → continues_label c ≡ true → is_steady c ≡ true
label_steady c e = grind (arith, nat_tests)

run_steady : (head tail : ℕ → Bool) (bytes : List ℕ) → ((c : ℕ) → head c ≡ true → is_steady c ≡ true)
    → ((c : ℕ) → tail c ≡ true → is_steady c ≡ true)
    → is_run head tail bytes ≡ true → list_all is_steady bytes ≡ true
run_steady head tail bytes h t e = grind (arith, all_more)

tail_steady : (bytes : List ℕ) → is_label_tail bytes ≡ true → list_all is_steady bytes ≡ true
tail_steady [] e = refl
tail_steady (c ∷ []) e = rw (same_byte c 58 e) refl
tail_steady (c ∷ d ∷ ds) e = let parts = both (continues_label c) (is_label_tail (d ∷ ds)) e in
    rw (label_steady c parts.0) (tail_steady (d ∷ ds) parts.1)

pub label_bytes_steady : (bytes : List ℕ) → is_label bytes ≡ true → list_all is_steady bytes ≡ true
label_bytes_steady bytes e = grind (arith, tail_steady)

sign_steady : (bytes : List ℕ) → is_sign bytes ≡ true → list_all is_steady bytes ≡ true
sign_steady bytes e = grind (arith, nat_tests)

-- a literal is passed whole
opened : (P : List ℕ → Type 0) (lines : List (List ℕ)) → Behind P (Literal Opening) (onto_first 34 lines)
    → Behind P Plain (onto_first 34 lines)
opened P lines h = grind arith

text_on : (P : List ℕ → Type 0) (bytes rest : List ℕ) → IsLiteral bytes → FromHere P Plain rest
    → FromHere P Plain (bytes ++ rest)
unfolding lines_of
text_on P bytes rest h here =
    grind (
      arith,
      opened P,
      quote_on P Opening (bytes ++ rest) (length bytes) (literal_found bytes rest h),
      literal_found bytes rest,
      drop-append_seam bytes,
    )

steady_stays : (c : ℕ) → is_steady c ≡ true → after_byte Plain c ≡ Plain
steady_stays c e = grind (arith, nat_tests)

pub token_on : (P : List ℕ → Type 0) (first : Bool) (sort : Sort) (bytes rest : List ℕ)
    → SpellsPlain first (Token sort) bytes → FromHere P Plain rest → FromHere P Plain (bytes ++ rest)
token_on P first Label bytes rest h here =
    steady_on P Plain bytes rest steady_stays (label_bytes_steady bytes (both first (is_label bytes) h).1) here
token_on P first BodySort bytes rest h here = absurd h
token_on P first Name bytes rest h here =
    steady_on P Plain bytes rest steady_stays
    (run_steady begins_name continues_name bytes (λ c e. grind (arith, nat_tests)) (λ c e. grind (arith, nat_tests))
    h) here
token_on P first Number bytes rest h here =
    grind (arith, steady_on P Plain bytes rest steady_stays, steady_stays, run_steady is_digit is_digit bytes)
token_on P first Text bytes rest h here = text_on P bytes rest h here
token_on P first Sign bytes rest h here = steady_on P Plain bytes rest steady_stays (sign_steady bytes h) here

-- the label of a comment

-- small letters and a colon
abbrev is_small_tail : List ℕ → Bool
is_small_tail [] = false
is_small_tail (d ∷ []) = d == 58
is_small_tail (d ∷ e ∷ ds) = (nat_le 97 d && nat_le d 122) && is_small_tail (e ∷ ds)

letter_alike : (c d : ℕ) → (nat_le 97 d && nat_le d 122) ≡ true → (to_ascii_lowercase c == d) ≡ true
    → is_letter c ≡ true
letter_alike c d small e = grind (arith, nat_tests)

tail_alike : (bytes wanted : List ℕ) → bytes_eq (str_to_ascii_lowercase bytes) wanted ≡ true
    → is_small_tail wanted ≡ true
    → (is_label_tail bytes ≡ true) × (length bytes ≡ length wanted)
tail_alike bytes [] e small = absurd (false≢true small)
tail_alike [] (d ∷ ds) e small = absurd (false≢true e)
tail_alike (c ∷ []) (d ∷ []) e small = grind arith
tail_alike (c ∷ b ∷ bs) (d ∷ []) e small = absurd (false≢true (both (to_ascii_lowercase c == d) false e).1)
tail_alike (c ∷ []) (d ∷ f ∷ ds) e small = absurd (false≢true (both (to_ascii_lowercase c == d) false e).1)
tail_alike (c ∷ b ∷ bs) (d ∷ f ∷ ds) e small = grind (arith, nat_tests, letter_alike, tail_alike (b ∷ bs) (f ∷ ds))

pub comment_label : (bytes : List ℕ) → is_comment_label bytes ≡ true → (length bytes ≡ 8) × (is_label bytes ≡ true)
comment_label bytes e = grind (arith, nat_tests, tail_alike)

pub label_piece : (left : List ℕ) → is_comment_label (take 8 left) ≡ true
    → lexeme_at LineStart left ≡ Some (Token Label, 8)
unfolding plain_lexeme colon_len
label_piece [] e = absurd (false≢true e)
label_piece (c ∷ cs) e =
    grind (arith, nat_tests, comment_label (take 8 (c ∷ cs)) e, length-take 8 (c ∷ cs), colon_found cs 7)
