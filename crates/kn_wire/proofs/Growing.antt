-- The first request of a text is the first one of a longer text, and what is then held is what more bytes make of it.
use Rattle.std.proofs.Common.{◌≡◌, ◌<◌, ◌≤◌, ◌+◌, ℕ, zero, suc, Bool, true, false, not, cond, ◌||◌, ◌==◌, nat_lt, ◌⊎◌}
use Rattle.std.proofs.Common.{inl, inr, Option, List, [], ◌∷◌, ◌++◌, length, take, drop, slice_get, option_map, arith}
use Rattle.std.proofs.Common.{refl, sym, ap, ◌∙◌, subst, Some, None, append_assoc, append-nil, length-append, drop_at}
use Rattle.std.proofs.Common.{drop-drop, lt-ltb, ltb-true, ltb-false, le-ltb, ne_eqb, eq-eqb}
use Rattle.std.specs.Prelude.{if◌then◌else◌}
use Rattle.std.specs.List.{list_any, before_first, after_first}
use Rattle.std.proofs.lemmas.List.{take-append-le, drop-append-le, drop_all}
use Rattle.std.proofs.lemmas.List.Folds.{prefix_len-append}
use Rattle.std.proofs.lemmas.Option.{slice_get_within}
use Rattle.std.proofs.lemmas.Grind.{common_steps}
use Rattle.kn_wire.specs.declared.fault.WireFault.TheVariants.{Long, Block}
use Rattle.kn_wire.specs.Requests.{Request, Line, Takes, Whole, WithBlock, Faulty, first_of, first_of_line}
use Rattle.kn_wire.specs.Requests.{first_of_block, line_of, line_length, without_return, is_newline}
use Rattle.kn_wire.specs.Feeding.{Held, Bytes, InLong, Shut, held_bytes, with_piece, held_after, next_of, is_shut}
use Rattle.kn_wire.proofs.LineFits.{IsKeptLine, kept-line}

pub no_request : {X : Type 0} (first : X) → None ≡ Some first → ⊥
no_request first e = cc

pub same_first : {X : Type 0} (a b : X) → Some a ≡ Some b → a ≡ b
same_first a b e = cc

-- Newlines.

pub line_within : (text : List ℕ) → line_length text ≤ length text
line_within [] = omega arith
line_within (b ∷ text) = grind (arith, common_steps, line_within text)

-- a text with a newline
pub ended-length : (text : List ℕ) → list_any is_newline text ≡ true → line_length text < length text
ended-length [] any = cc
ended-length (b ∷ text) any = by (is_newline b) any (ended-length text)
  where
    by : (t : Bool) → (t || list_any is_newline text) ≡ true
        → (list_any is_newline text ≡ true → line_length text < length text)
        → cond (not t) (1 + line_length text) 0 < length (b ∷ text)
    by true any rest = omega arith
    by false any rest = let l = rest any in omega arith

-- a text without one
pub open-length : (text : List ℕ) → list_any is_newline text ≡ false → line_length text ≡ length text
open-length [] any = refl
open-length (b ∷ text) any = by (is_newline b) any (open-length text)
  where
    by : (t : Bool) → (t || list_any is_newline text) ≡ false
        → (list_any is_newline text ≡ false → line_length text ≡ length text)
        → cond (not t) (1 + line_length text) 0 ≡ length (b ∷ text)
    by true any rest = cc
    by false any rest = let l = rest any in omega arith

pub ended-longer : (text more : List ℕ) → line_length text < length text → line_length (text ++ more) ≡ line_length text
ended-longer text more l =
    prefix_len-append _ text more
    ∙ ap (λ t. cond t (length text + line_length more) (line_length text))
    (ne_eqb (line_length text) (length text) (λ e. omega (arith, e, l)))

pub open-longer : (text more : List ℕ) → line_length text ≡ length text
    → line_length (text ++ more) ≡ length text + line_length more
open-longer text more e =
    prefix_len-append _ text more
    ∙ ap (λ t. cond t (length text + line_length more) (line_length text))
    (eq-eqb (line_length text) (length text) e)

pub ended-before : (text more : List ℕ) → line_length text < length text
    → before_first is_newline (text ++ more) ≡ before_first is_newline text
ended-before text more l =
    ap (λ n. take n (text ++ more)) (ended-longer text more l)
    ∙ take-append-le (line_length text) text more (omega arith)

pub ended-after : (text more : List ℕ) → line_length text < length text
    → after_first is_newline (text ++ more) ≡ after_first is_newline text ++ more
ended-after text more l =
    ap (λ n. drop (n + 1) (text ++ more)) (ended-longer text more l)
    ∙ drop-append-le (line_length text + 1) text more (omega arith)

pub open-after : (text more : List ℕ) → line_length text ≡ length text
    → after_first is_newline (text ++ more) ≡ after_first is_newline more
open-after text more e =
    let longer : line_length (text ++ more) + 1 ≡ length text + (line_length more + 1) = let l =
    open-longer text more e in omega arith in
    ap (λ n. drop n (text ++ more)) longer
    ∙ sym (drop-drop (line_length more + 1) (length text) (text ++ more))
    ∙ ap (λ rest. drop (line_length more + 1) rest) (drop_at text more (length text) refl)

pub open-left : (text : List ℕ) → line_length text ≡ length text → after_first is_newline text ≡ []
open-left text e = drop_all (line_length text + 1) text (omega arith)

-- The first request by its cases.

pub long-first : (text : List ℕ) → 8192 < line_length text
    → first_of text ≡ Some (Faulty Long, after_first is_newline text)
long-first text long =
    ap (λ t. if t then Some (Faulty Long, after_first is_newline text)
    else if nat_lt (line_length text) (length text) then first_of_line
    (line_of (without_return (before_first is_newline text))) (after_first is_newline text)
    else None) (lt-ltb 8192 (line_length text) long)

pub line-first : (text : List ℕ) → line_length text ≤ 8192 → line_length text < length text
    → first_of text ≡ first_of_line (line_of (without_return (before_first is_newline text)))
    (after_first is_newline text)
line-first text short ended =
    ap (λ t. if t then Some (Faulty Long, after_first is_newline text)
    else if nat_lt (line_length text) (length text) then first_of_line
    (line_of (without_return (before_first is_newline text))) (after_first is_newline text)
    else None) (le-ltb 8192 (line_length text) short)
    ∙ ap (λ t. if t then first_of_line (line_of (without_return (before_first is_newline text)))
    (after_first is_newline text) else None) (lt-ltb (line_length text) (length text) ended)

pub none-first : (text : List ℕ) → line_length text ≤ 8192 → length text ≤ line_length text → first_of text ≡ None
none-first text short no_end =
    ap (λ t. if t then Some (Faulty Long, after_first is_newline text)
    else if nat_lt (line_length text) (length text) then first_of_line
    (line_of (without_return (before_first is_newline text))) (after_first is_newline text)
    else None) (le-ltb 8192 (line_length text) short)
    ∙ ap (λ t. if t then first_of_line (line_of (without_return (before_first is_newline text)))
    (after_first is_newline text) else None) (le-ltb (line_length text) (length text) no_end)

-- what is left of a longer text, where this was the first request of a text
Longer : List ℕ → List ℕ → Request × List ℕ → Request × List ℕ
Longer text more first = (first.0, held_bytes (with_piece (held_after text first.0 first.1) more))

long-left : (text more : List ℕ) → 8192 < line_length text
    → after_first is_newline (text ++ more) ≡ (Longer text more (Faulty Long, after_first is_newline text)).1
unfolding Longer
long-left text more long = by (list_any is_newline text) refl
  where
    left : Bool → List ℕ
    left t = held_bytes (with_piece (if t then Bytes (after_first is_newline text) else InLong) more)

    in_long : (t : Bool) → list_any is_newline more ≡ t
        → after_first is_newline more ≡ held_bytes (if t then Bytes (after_first is_newline more) else InLong)
    in_long true any = refl
    in_long false any = open-left more (open-length more any)

    by : (t : Bool) → list_any is_newline text ≡ t
        → after_first is_newline (text ++ more) ≡ left (list_any is_newline text)
    by true any = ended-after text more (ended-length text any) ∙ ap left (sym any)
    by false any = open-after text more (open-length text any) ∙ in_long (list_any is_newline more) refl
        ∙ ap left (sym any)

long-longer : (text more : List ℕ) → 8192 < line_length text → 8192 < line_length (text ++ more)
long-longer text more long = by (list_any is_newline text) refl
  where
    by : (t : Bool) → list_any is_newline text ≡ t → 8192 < line_length (text ++ more)
    by true any = let l = ended-longer text more (ended-length text any) in omega (arith, l, long)
    by false any =
        let l = open-longer text more (open-length text any) in
        let e = open-length text any in
        omega (arith, l, e, long)

-- A line and what follows it.

slice_get-longer : {X : Type 0} (xs ys : List X) (n : ℕ) (x : X) → slice_get xs n ≡ Some x
    → slice_get (xs ++ ys) n ≡ Some x
slice_get-longer [] ys n x e = absurd (no_request x e)
slice_get-longer (y ∷ xs) ys zero x e = e
slice_get-longer (y ∷ xs) ys (suc n) x e = slice_get-longer xs ys n x e

block-grows : (n : ℕ) (request : List ℕ → Request) (text rest more : List ℕ) (byte : Option ℕ) (first : Request
    × List ℕ)
    → ((block left : List ℕ) → held_after text (request block) left ≡ Bytes left)
    → slice_get rest n ≡ byte → first_of_block n request rest byte ≡ Some first
    → first_of_block n request (rest ++ more) (slice_get (rest ++ more) n) ≡ Some (Longer text more first)
unfolding Longer
block-grows n request text rest more None first kept there e = absurd (no_request first e)
block-grows n request text rest more (Some b) first kept there e =
    ap (first_of_block n request (rest ++ more)) (slice_get-longer rest more n b there) ∙ by (b == 10) e
  where
    by : (t : Bool) → (if t then Some (request (take n rest), drop (n + 1) rest) else Some (Faulty (Block n), []))
        ≡ Some first
        → (if t then Some (request (take n (rest ++ more)), drop (n + 1) (rest ++ more)) else Some (
          Faulty (Block n),
          [],
        )) ≡ Some (Longer text more first)
    by true e =
        let within = slice_get_within rest n b there in
        let same = same_first (request (take n rest), drop (n + 1) rest) first e in
        ap (λ block. Some (request block, drop (n + 1) (rest ++ more)))
        (take-append-le n rest more (omega (arith, within)))
        ∙ ap (λ left. Some (request (take n rest), left)) (drop-append-le (n + 1) rest more (omega (arith, within)))
        ∙ ap (λ h. Some (request (take n rest), held_bytes (with_piece h more)))
        (sym (kept (take n rest) (drop (n + 1) rest)))
        ∙ ap (λ f. Some (Longer text more f)) same
    by false e = ap (λ f. Some (Longer text more f)) (same_first (Faulty (Block n), []) first e)

line-grows : (line : Line) (text rest more : List ℕ) (first : Request × List ℕ) → IsKeptLine line
    → first_of_line line rest ≡ Some first
    → first_of_line line (rest ++ more) ≡ Some (Longer text more first)
unfolding Longer
line-grows (Whole request) text rest more first kept e =
    ap (λ h. Some (request, held_bytes (with_piece h more))) (sym (kept text rest))
    ∙ ap (λ f. Some (Longer text more f)) (same_first (request, rest) first e)
line-grows (WithBlock n request) text rest more first kept e = by (nat_lt 16384 n) e
  where
    by : (t : Bool) → (if t then Some (Faulty (Block n), []) else first_of_block n request rest (slice_get rest n))
        ≡ Some first
        → (if t then Some (Faulty (Block n), []) else first_of_block n request (rest ++ more)
        (slice_get (rest ++ more) n)) ≡ Some (Longer text more first)
    by true e = ap (λ f. Some (Longer text more f)) (same_first (Faulty (Block n), []) first e)
    by false e = block-grows n request text rest more (slice_get rest n) first (λ block left. kept block text left) refl
        e

-- the first request of a text is that of a longer one
first-grows : (text more : List ℕ) (first : Request × List ℕ) → first_of text ≡ Some first
    → first_of (text ++ more) ≡ Some (Longer text more first)
unfolding Longer
first-grows text more first e = by (nat_lt 8192 (line_length text)) (nat_lt (line_length text) (length text)) refl refl
  where
    by : (long ended : Bool) → nat_lt 8192 (line_length text) ≡ long → nat_lt (line_length text) (length text) ≡ ended
        → first_of (text ++ more) ≡ Some (Longer text more first)
    by true ended is_long is_ended =
        let long = ltb-true 8192 (line_length text) is_long in
        let same = same_first (Faulty Long, after_first is_newline text) first (sym (long-first text long) ∙ e) in
        long-first (text ++ more) (long-longer text more long)
        ∙ ap (λ left. Some (Faulty Long, left)) (long-left text more long)
        ∙ ap (λ f. Some (Longer text more f)) same
    by false true is_long is_ended =
        let short = ltb-false 8192 (line_length text) is_long in
        let ended = ltb-true (line_length text) (length text) is_ended in
        let same = ended-longer text more ended in
        let sizes = length-append text more in
        line-first (text ++ more) (omega (arith, short, same)) (omega (arith, same, ended, sizes))
        ∙ ap (λ line. first_of_line (line_of (without_return line)) (after_first is_newline (text ++ more)))
        (ended-before text more ended)
        ∙ ap (first_of_line (line_of (without_return (before_first is_newline text)))) (ended-after text more ended)
        ∙ line-grows (line_of (without_return (before_first is_newline text))) text (after_first is_newline text) more
        first (kept-line (without_return (before_first is_newline text))) (sym (line-first text short ended) ∙ e)
    by false false is_long is_ended =
        absurd (no_request first
        (sym (none-first text (ltb-false 8192 (line_length text) is_long)
        (ltb-false (line_length text) (length text) is_ended)) ∙ e))

-- Feeds.

abbrev pub spent : List ℕ → Request × List ℕ → Request × Held
spent text first = (first.0, held_after text first.0 first.1)

pub next-grows : (held after : Held) (request : Request) (more : List ℕ) → is_shut held ≡ false
    → next_of held ≡ Some (request, after)
    → first_of (held_bytes (with_piece held more)) ≡ Some (request, held_bytes (with_piece after more))
unfolding Longer
next-grows (Bytes text) after request more shut e = by (first_of text) refl e
  where
    by : (first : Option (Request × List ℕ)) → first_of text ≡ first
        → option_map (spent text) first ≡ Some (request, after)
        → first_of (text ++ more) ≡ Some (request, held_bytes (with_piece after more))
    by None there e = absurd (no_request (request, after) e)
    by (Some first) there e =
        first-grows text more first there
        ∙ ap (λ (p : Request × Held). Some (p.0, held_bytes (with_piece p.1 more)))
        (same_first (first.0, held_after text first.0 first.1) (request, after) e)
next-grows InLong after request more shut e = absurd (no_request (request, after) e)
next-grows (Shut n) after request more shut e = cc

-- What a request leaves is held, or nothing is left.

Fate : List ℕ → Request × List ℕ → Type 0
Fate text first = (held_after text first.0 first.1 ≡ Bytes first.1) ⊎ (first.1 ≡ [])

line-fate : (line : Line) (text rest : List ℕ) (first : Request × List ℕ) → IsKeptLine line
    → first_of_line line rest ≡ Some first → Fate text first
unfolding Fate
line-fate (Whole request) text rest first kept e =
    subst (Fate text) (same_first (request, rest) first e) (inl (kept text rest))
line-fate (WithBlock n request) text rest first kept e = by (nat_lt 16384 n) e
  where
    by_newline : (t : Bool)
        → (if t then Some (request (take n rest), drop (n + 1) rest) else Some (Faulty (Block n), [])) ≡ Some first
        → Fate text first
    by_newline true e =
        subst (Fate text) (same_first (request (take n rest), drop (n + 1) rest) first e)
        (inl (kept (take n rest) text (drop (n + 1) rest)))
    by_newline false e = subst (Fate text) (same_first (Faulty (Block n), []) first e) (inr refl)

    by_byte : (byte : Option ℕ) → first_of_block n request rest byte ≡ Some first → Fate text first
    by_byte None e = absurd (no_request first e)
    by_byte (Some b) e = by_newline (b == 10) e

    by : (t : Bool) → (if t then Some (Faulty (Block n), []) else first_of_block n request rest (slice_get rest n))
        ≡ Some first → Fate text first
    by true e = subst (Fate text) (same_first (Faulty (Block n), []) first e) (inr refl)
    by false e = by_byte (slice_get rest n) e

first-fate : (text : List ℕ) (first : Request × List ℕ) → first_of text ≡ Some first → Fate text first
unfolding Fate
first-fate text first e = by (nat_lt 8192 (line_length text)) (nat_lt (line_length text) (length text)) refl refl
  where
    by_any : (t : Bool) → list_any is_newline text ≡ t → Fate text (Faulty Long, after_first is_newline text)
    by_any true any = inl (ap (λ t. if t then Bytes (after_first is_newline text) else InLong) any)
    by_any false any = inr (open-left text (open-length text any))

    by : (long ended : Bool) → nat_lt 8192 (line_length text) ≡ long → nat_lt (line_length text) (length text) ≡ ended
        → Fate text first
    by true ended is_long is_ended =
        let long = ltb-true 8192 (line_length text) is_long in
        subst (Fate text) (same_first (Faulty Long, after_first is_newline text) first (sym (long-first text long) ∙ e))
        (by_any (list_any is_newline text) refl)
    by false true is_long is_ended =
        let short = ltb-false 8192 (line_length text) is_long in
        let ended = ltb-true (line_length text) (length text) is_ended in
        line-fate (line_of (without_return (before_first is_newline text))) text (after_first is_newline text) first
        (kept-line (without_return (before_first is_newline text))) (sym (line-first text short ended) ∙ e)
    by false false is_long is_ended =
        absurd (no_request first
        (sym (none-first text (ltb-false 8192 (line_length text) is_long)
        (ltb-false (line_length text) (length text) is_ended)) ∙ e))

pub requests-grow : (text more : List ℕ) (requests : List Request) (rest : List ℕ) → Takes text requests rest
    → (left : List ℕ) × Takes (text ++ more) requests left
unfolding Longer Fate
requests-grow text more [] rest h = (text ++ more, refl)
requests-grow text more (request ∷ []) rest (mid, here, later) =
    let left = (Longer text more (request, mid)).1 in
    (left, (left, first-grows text more (request, mid) here, refl))
requests-grow text more (request ∷ next ∷ requests) rest (mid, here, later) =
    by (first-fate text (request, mid) here) (requests-grow mid more (next ∷ requests) rest later)
  where
    by : Fate text (request, mid) → ((left : List ℕ) × Takes (mid ++ more) (next ∷ requests) left) → (left : List ℕ)
        × Takes (text ++ more) (request ∷ next ∷ requests) left
    by (inl kept) grown = (
      grown.0,
      (
        mid ++ more,
        first-grows text more (request, mid) here
            ∙ ap (λ h. Some (request, held_bytes (with_piece h more))) kept,
        grown.1,
      ),
    )
    by (inr none) grown = absurd (no_request (next, later.0) (ap first_of (sym none) ∙ later.1))

-- one piece after the other is both at once
pub pushed-pushed : (held : Held) (piece more : List ℕ)
    → held_bytes (with_piece (with_piece held piece) more) ≡ held_bytes (with_piece held (piece ++ more))
pushed-pushed (Bytes text) piece more = append_assoc text piece more
pushed-pushed (Shut n) piece more = refl
pushed-pushed InLong piece more = by (list_any is_newline piece) (list_any is_newline more) refl refl
  where
    outcome : Bool → List ℕ → List ℕ
    outcome t text = held_bytes (if t then Bytes (after_first is_newline text) else InLong)

    all_left : (text : List ℕ) → outcome (list_any is_newline text) text ≡ after_first is_newline text
    all_left text = each (list_any is_newline text) refl
      where
        each : (t : Bool) → list_any is_newline text ≡ t → outcome t text ≡ after_first is_newline text
        each true any = refl
        each false any = sym (open-left text (open-length text any))

    by : (p m : Bool) → list_any is_newline piece ≡ p → list_any is_newline more ≡ m
        → held_bytes (with_piece (if list_any is_newline piece then Bytes (after_first is_newline piece) else InLong)
        more)
        ≡ outcome (list_any is_newline (piece ++ more)) (piece ++ more)
    by true m any_p any_m =
        ap (λ t. held_bytes (with_piece (if t then Bytes (after_first is_newline piece) else InLong) more)) any_p
        ∙ sym (ended-after piece more (ended-length piece any_p))
        ∙ sym (all_left (piece ++ more))
    by false m any_p any_m =
        ap (λ t. held_bytes (with_piece (if t then Bytes (after_first is_newline piece) else InLong) more)) any_p
        ∙ all_left more
        ∙ sym (open-after piece more (open-length piece any_p))
        ∙ sym (all_left (piece ++ more))

pub pushed-nothing : (held : Held) → held_bytes (with_piece held []) ≡ held_bytes held
pushed-nothing (Bytes text) = append-nil text
pushed-nothing InLong = refl
pushed-nothing (Shut n) = refl

pub pushed-not_shut : (held : Held) (piece : List ℕ) → is_shut held ≡ false → is_shut (with_piece held piece) ≡ false
pushed-not_shut (Bytes text) piece h = refl
pushed-not_shut InLong piece h = by (list_any is_newline piece)
  where
    by : (t : Bool) → is_shut (if t then Bytes (after_first is_newline piece) else InLong) ≡ false
    by true = refl
    by false = refl
pushed-not_shut (Shut n) piece h = h

-- where there is no next request, there is no first one of what is held
pub none-left : (held : Held) → next_of held ≡ None → first_of (held_bytes held) ≡ None
none-left (Bytes text) e = by (first_of text) e
  where
    by : (first : Option (Request × List ℕ)) → option_map (spent text) first ≡ None → first ≡ None
    by None e = refl
    by (Some first) e = absurd (no_request (first.0, held_after text first.0 first.1) (sym e))
none-left InLong e = refl
none-left (Shut n) e = absurd (no_request _ (sym e))
