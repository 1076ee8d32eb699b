-- How the scanner's functions go on at a place in a text, and end with it.
use Rattle.std.proofs.Common.{cond, ◌≡◌, ℕ, true, false, Bool, ◌+◌, ◌-◌, ◌*◌, ◌^◌, ◌<◌, ◌≤◌, List, [], ◌∷◌, Option}
use Rattle.std.proofs.Common.{Some, None, suc, length, take, drop, get_or, arith, refl, sym, ◌∙◌, ap, lit<}
use Rattle.std.proofs.Common.{if◌then◌else◌}
use Rattle.std.specs.Prelude.{not, ◌||◌, ◌&&◌, ◌==◌, nat_lt, nat_le}
use Rattle.std.proofs.Math.Nat.{le-mul_of_pos_right, pow-le-pow_right}
use Rattle.std.proofs.Math.Numerals.{one-add}
use Rattle.std.proofs.lemmas.Bool.{lt-ltb}
use Rattle.std.proofs.lemmas.Bool.Decides.{nat_tests}
use Rattle.std.proofs.lemmas.List.{at_drop_more, at_drop_all, drop-drop}
use Rattle.std.specs.List.{prefix_len}
use Rattle.kn_base.specs.declared.limits.TheConstants.{WHOLE_NUMBER}
use Rattle.kn_base.specs.Decimal.{digits_value}
use Rattle.kn_base.proofs.Digits.{digit_read_at}
use Rattle.kn_lex.specs.Bytes.{is_gap, is_white, is_quoted, continues_label, begins_with}
use Rattle.kn_lex.specs.Spelling.{is_blank, is_continuation}
use Rattle.kn_lex.specs.Between.{is_line_end}
use Rattle.kn_lex.specs.Faults.{goes_on, begins_match}
use Rattle.kn_lex.specs.Cutting.{ends_line}
use Rattle.kn_lex.specs.Scanning.{white_len, line_len, colon_len, body_len, quote_len, more_len, quote_step, len_after}
use Rattle.kn_lex.specs.Scanning.{stuck_fault}
use Rattle.kn_lex.specs.declared.quote.Quote.{Quote}
use Rattle.kn_lex.specs.declared.quote.Step.TheVariants.{Go}
use Rattle.kn_lex.specs.declared.quote.Quote.TheVariants.{Opening, Plain}
use Rattle.kn_lex.specs.declared.fault.LexFault.TheVariants.{NotText, BadString, BadToken, Float, Regex}

-- a byte of a kind stands in front behind a place exactly where it stands at the place
pub begins_at : (p : ℕ → Bool) (xs : List ℕ) (i : ℕ) → i < length xs → begins_with p (drop i xs) ≡ p (get_or xs i 0)
begins_at p xs i h = at_drop_more (begins_with p) xs i 0 h

pub begins_end : (p : ℕ → Bool) (xs : List ℕ) (i : ℕ) → length xs ≤ i → begins_with p (drop i xs) ≡ false
begins_end p xs i h = at_drop_all (begins_with p) xs i h

-- a front one byte longer, and what is behind it
pub take_next : (x : ℕ) (xs : List ℕ) (n : ℕ) → take (1 + n) (x ∷ xs) ≡ x ∷ take n xs
take_next x xs n = rw (one-add n) refl

pub drop_next : (x : ℕ) (xs : List ℕ) (n : ℕ) → drop (1 + n) (x ∷ xs) ≡ drop n xs
drop_next x xs n = rw (one-add n) refl

-- what ends a run tells how the bytes go on

pub white_by_run : (xs : List ℕ)
    → white_len xs ≡ (if begins_with (λ c. c == 10) (drop (prefix_len is_gap xs) xs) then prefix_len is_gap xs
    + 1 else prefix_len is_gap xs)
unfolding white_len
white_by_run [] = refl
white_by_run (c ∷ cs) = by (c == 10) (is_gap c) refl (λ e. grind (arith, nat_tests)) (white_by_run cs)
  where
    by : (b g : Bool) → (c == 10) ≡ b → (g ≡ true → b ≡ false)
        → white_len cs ≡ (if begins_with (λ d. d == 10) (drop (prefix_len is_gap cs) cs) then prefix_len is_gap cs
        + 1 else prefix_len is_gap cs)
        → (if b then 1 else if g then 1 + white_len cs else 0)
        ≡ (if begins_with (λ d. d == 10) (drop (cond g (1 + prefix_len is_gap cs) 0) (c ∷ cs)) then cond g
        (1 + prefix_len is_gap cs) 0 + 1 else cond g (1 + prefix_len is_gap cs) 0)
    by b g here other rest = grind (arith, drop_next)

-- a colon goes on no label
pub colon_ends : (c : ℕ) → continues_label c ≡ true → (c == 58) ≡ false
colon_ends c e = grind (arith, nat_tests)

pub colon_by_run : (xs : List ℕ)
    → colon_len xs ≡ (if begins_with (λ c. c == 58) (drop (prefix_len continues_label xs) xs) then Some
    (prefix_len continues_label xs + 1) else None)
unfolding colon_len
colon_by_run [] = refl
colon_by_run (c ∷ cs) = by (c == 58) (continues_label c) refl (colon_ends c) (colon_by_run cs)
  where
    by : (b g : Bool) → (c == 58) ≡ b → (g ≡ true → b ≡ false)
        → colon_len cs ≡ (if begins_with (λ d. d == 58) (drop (prefix_len continues_label cs) cs) then Some
        (prefix_len continues_label cs + 1) else None)
        → (if b then Some 1 else if g then more_len 1 (colon_len cs) else None)
        ≡ (if begins_with (λ d. d == 58) (drop (cond g (1 + prefix_len continues_label cs) 0) (c ∷ cs)) then Some
        (cond g (1 + prefix_len continues_label cs) 0 + 1) else None)
    by b g here other rest = grind (arith, drop_next)

pub body_len_at : (xs : List ℕ) (i : ℕ) → i < length xs
    → body_len (drop i xs)
    ≡ (if get_or xs i 0 == 10 && not (is_continuation (drop (i + 1) xs)) then 0 else 1 + body_len (drop (i + 1) xs))
unfolding body_len
body_len_at xs i h = at_drop_more body_len xs i 0 h

pub body_len_end : (xs : List ℕ) (i : ℕ) → length xs ≤ i → body_len (drop i xs) ≡ 0
unfolding body_len
body_len_end xs i h = at_drop_all body_len xs i h

pub line_end_at : (xs : List ℕ) (i : ℕ) → i < length xs → is_line_end (drop i xs) ≡ (get_or xs i 0 == 10)
line_end_at xs i h = at_drop_more is_line_end xs i 0 h

pub line_end_end : (xs : List ℕ) (i : ℕ) → length xs ≤ i → is_line_end (drop i xs) ≡ true
line_end_end xs i h = at_drop_all is_line_end xs i h

body_line : (ys : List ℕ) → body_len ys ≡ line_len ys + body_len (drop (line_len ys) ys)
unfolding body_len
body_line [] = refl
body_line (c ∷ cs) = grind (arith, body_line cs, drop_next)

-- the body of a comment goes on to the end of each of its lines
pub body_by_line : (xs : List ℕ) (i n : ℕ) → line_len (drop i xs) ≡ n → body_len xs ≡ i + body_len (drop i xs)
    → body_len xs ≡ (i + n) + body_len (drop (i + n) xs)
body_by_line xs i n e whole = grind (arith, body_line, drop-drop)

pub line_ends : (ys : List ℕ) → is_line_end (drop (line_len ys) ys) ≡ true
line_ends [] = refl
line_ends (c ∷ cs) = grind (arith, line_ends cs, drop_next)

-- behind a line it goes on with a continuation line alone
pub body_at_line : (xs : List ℕ) (i n : ℕ) → line_len (drop i xs) ≡ n → i + n < length xs
    → body_len (drop (i + n) xs)
    ≡ (if is_continuation (drop (i + n + 1) xs) then 1 + body_len (drop (i + n + 1) xs) else 0)
body_at_line xs i n e h =
    let newline : (get_or xs (i + n) 0 == 10) ≡ true =
    cc (line_end_at xs (i + n) h, drop-drop n i xs, line_ends (drop i xs)) in
    body_len_at xs (i + n) h ∙ rw newline (grind arith)

pub quote_len_at : (quote : Quote) (xs : List ℕ) (i : ℕ) → i < length xs
    → quote_len quote (drop i xs)
    ≡ len_after (quote_step quote (get_or xs i 0)) (λ next. quote_len next (drop (i + 1) xs))
unfolding quote_len
quote_len_at quote xs i h = at_drop_more (quote_len quote) xs i 0 h

pub quote_len_end : (quote : Quote) (xs : List ℕ) (i : ℕ) → length xs ≤ i → quote_len quote (drop i xs) ≡ None
unfolding quote_len
quote_len_end quote xs i h = at_drop_all (quote_len quote) xs i h

pub more_len_twice : (a b : ℕ) (n : Option ℕ) → more_len a (more_len b n) ≡ more_len (a + b) n
more_len_twice a b n = grind arith

pub more_len_none : (a : ℕ) (n : Option ℕ) → n ≡ None → more_len a n ≡ None
more_len_none a n e = ap (more_len a) e

pub more_len_zero : (n : Option ℕ) → more_len 0 n ≡ n
more_len_zero n = grind arith

-- what stands for itself leaves a literal as it is
pub quoted_run : (xs : List ℕ)
    → quote_len Plain xs ≡ more_len (prefix_len is_quoted xs) (quote_len Plain (drop (prefix_len is_quoted xs) xs))
unfolding quote_len
quoted_run [] = refl
quoted_run (c ∷ cs) = grind (arith, nat_tests, quoted_run cs, drop_next)

-- one step of a literal, and what leaves it as it is behind it
pub quote_on : (xs : List ℕ) (quote next : Quote) (i n : ℕ) → i < length xs → quote_step quote (get_or xs i 0) ≡ Go next
    → quote_len next (drop (i + 1) xs) ≡ more_len n (quote_len next (drop n (drop (i + 1) xs)))
    → quote_len Opening xs ≡ more_len i (quote_len quote (drop i xs))
    → quote_len Opening xs ≡ more_len (i + 1 + n) (quote_len next (drop (i + 1 + n) xs))
quote_on xs quote next i n h step stay whole = grind (arith, quote_len_at, drop-drop)

pub goes_on_at : (commented : Bool) (xs : List ℕ) (i : ℕ) → i < length xs
    → goes_on commented (drop i xs) ≡ goes_on commented (get_or xs i 0 ∷ drop (i + 1) xs)
goes_on_at commented xs i h = at_drop_more (goes_on commented) xs i 0 h

pub goes_on_end : (commented : Bool) (xs : List ℕ) (i : ℕ) → length xs ≤ i → goes_on commented (drop i xs) ≡ false
goes_on_end true xs i h = at_drop_all (goes_on true) xs i h
goes_on_end false xs i h = at_drop_all (goes_on false) xs i h

-- a newline ends a blank line, and a byte that isn't white space leaves none
pub is_blank-cons : (c : ℕ) (cs : List ℕ) → is_blank (c ∷ cs) ≡ (if c == 10 then true else is_white c && is_blank cs)
is_blank-cons c cs = grind (arith, take_next)

pub blank_by_run : (xs : List ℕ) → is_blank xs ≡ is_line_end (drop (prefix_len is_gap xs) xs)
blank_by_run [] = refl
blank_by_run (c ∷ cs) = grind (arith, nat_tests, blank_by_run cs, is_blank-cons c cs, drop_next)

pub ends_line_by_last : (bytes : List ℕ) → 0 < length bytes
    → ends_line bytes ≡ (get_or bytes (length bytes - 1) 0 == 10)
ends_line_by_last [] h = absurd (omega arith)
ends_line_by_last (a ∷ []) h = refl
ends_line_by_last (a ∷ b ∷ cs) h =
    let more : 0 < length (b ∷ cs) = omega arith in
    let on : length (a ∷ b ∷ cs) - 1 ≡ suc (length (b ∷ cs) - 1) = omega arith in
    ends_line_by_last (b ∷ cs) more ∙ ap (λ k. get_or (a ∷ b ∷ cs) k 0 == 10) (sym on)

pub stuck_fault_at : (at : ℕ) (rest : List ℕ) → 0 < length rest
    → stuck_fault at rest ≡ (if get_or rest 0 0 == 0 || nat_le 128 (get_or rest 0 0) then Some (NotText at)
    else if get_or rest 0 0 == 34 then Some (BadString at)
    else if get_or rest 0 0 == 38 then Some (Float at)
    else if begins_match rest then Some (Regex at)
    else Some (BadToken at))
unfolding stuck_fault
stuck_fault_at at rest h = grind arith

-- what a walk over a literal, over a blank line and over a body goes by
pub ruleset quote_steps = (quote_len_at, quote_len_end, more_len_twice, more_len_none)

pub ruleset blank_steps = (blank_by_run, line_end_at, line_end_end)

pub ruleset body_steps = (body_by_line, body_at_line, body_len_end)
