-- Reading values one behind the other, as a loop does.
use Rattle.std.proofs.Common.{◌≡◌, ℕ, zero, suc, ◌-◌, ◌+◌, ◌≤◌, ◌<◌, Bool, true, false, ◌&&◌, ltb, List, [], ◌∷◌, ◌++◌}
use Rattle.std.proofs.Common.{length, drop, get_or, Ok, Err, refl, sym, ap, ◌∙◌, append_assoc, arith, inl, inr, ◌⊎◌}
use Rattle.std.specs.Prelude.{◌/◌, ◌*◌}
use Rattle.std.proofs.lemmas.Bool.{or_left, or_from, and_left, and_right, lt-ltb, ne_eqb, eq-eqb}
use Rattle.std.proofs.lemmas.List.{append-nil, drop_more, drop_all}
use Rattle.kn_base.specs.Decimal.{is_digit}
use Rattle.kn_follow.specs.declared.reply.ReadStop.{ReadStop}
use Rattle.kn_follow.specs.declared.reply.ReadStop.TheVariants.{Departs, NoMemory}
use Rattle.kn_follow.specs.InCode.{Stops}
use Rattle.kn_follow.specs.Reading.{Read, ◌>>=◌, times, literal_at, is_between, begins_number, ends_number}
use Rattle.kn_follow.specs.Reading.{is_next_digit, digits_at}
use Rattle.kn_follow.proofs.Readers.{got}

abbrev front_and : {A : Type 0} → List A → List A × List ℕ → Read (List A)
front_and front x = Ok (front ++ x.0, x.1)

-- what was read before, and what is still read
abbrev pub with_front : {A : Type 0} → List A → Read (List A) → Read (List A)
with_front front found = found >>= front_and front

abbrev first_and : {A : Type 0} → A → List A × List ℕ → Read (List A)
first_and a x = Ok (a ∷ x.0, x.1)

regroup : {A : Type 0} (front : List A) (a : A) (found : Read (List A))
    → with_front front (found >>= first_and a) ≡ with_front (front ++ a ∷ []) found
regroup {A} front a (Ok x) = ap (λ (l : List A). got l x.1) (sym (append_assoc front (a ∷ []) x.0))
regroup front a (Err rest) = refl

pub goes_on : {A : Type 0} (r : List ℕ → Read A) (front : List A) (count i : ℕ) (text : List ℕ) (a : A) (after : List ℕ)
    (total : Read (List A)) → i < count → r text ≡ got a after
    → with_front front (times r (count - i) text) ≡ total
    → with_front (front ++ a ∷ []) (times r (count - (i + 1)) after) ≡ total
unfolding times
goes_on r front count i text a after total lt h so_far =
    let k : count - i ≡ suc (count - (i + 1)) = omega (arith, lt) in
    let one : with_front front (times r (count - i) text)
    ≡ with_front (front ++ a ∷ []) (times r (count - (i + 1)) after) =
    rw (k, h) (regroup front a (times r (count - (i + 1)) after)) in
    sym one ∙ so_far

pub ends : {A : Type 0} (r : List ℕ → Read A) (stop : ReadStop) (front : List A) (count i : ℕ) (text : List ℕ)
    (total : Read (List A)) → i < count → Stops stop (r text)
    → with_front front (times r (count - i) text) ≡ total → Stops stop total
unfolding times
ends r NoMemory front count i text total lt h so_far = tt
ends r (Departs rest) front count i text total lt h so_far =
    let k : count - i ≡ suc (count - (i + 1)) = omega (arith, lt) in
    let one : with_front front (times r (count - i) text) ≡ Err rest.now = rw (k, h) refl in
    sym so_far ∙ one

pub is_done : {A : Type 0} (r : List ℕ → Read A) (front : List A) (count i : ℕ) (text : List ℕ) (total : Read (List A))
    → count ≤ i → with_front front (times r (count - i) text) ≡ total → total ≡ got front text
unfolding times
is_done {A} r front count i text total le so_far =
    let k : count - i ≡ 0 = omega (arith, le) in
    let one : with_front front (times r (count - i) text) ≡ got front text =
    rw k (ap (λ (l : List A). got l text) (append-nil front)) in
    sym so_far ∙ one

-- Skipping bytes, as a loop does.

pub skip_short : (cs : List ℕ) (i : ℕ) (rest : List ℕ) (total : Read (Unit {0})) → i < length cs → length rest ≡ 0
    → literal_at (drop i cs) rest ≡ total → total ≡ Err rest
unfolding literal_at
skip_short cs i [] total lt none so_far = sym so_far ∙ ap (λ l. literal_at l []) (drop_more cs i 0 lt)
skip_short cs i (b ∷ rest) total lt none so_far = absurd (omega (arith, none))

at-place : (cs : List ℕ) (i c : ℕ) → i < length cs → get_or cs i 0 ≡ c → drop i cs ≡ c ∷ drop (i + 1) cs
at-place cs i c lt here = drop_more cs i 0 lt ∙ ap (λ x. x ∷ drop (i + 1) cs) here

pub skip_other : (cs : List ℕ) (i : ℕ) (rest : List ℕ) (b c : ℕ) (behind : List ℕ) (total : Read (Unit {0}))
    → i < length cs → get_or cs i 0 ≡ c → rest ≡ b ∷ behind → (b ≡ c → ⊥) → literal_at (drop i cs) rest ≡ total
    → total ≡ Err rest
unfolding literal_at
skip_other cs i rest b c behind total lt here cut other so_far =
    let step : literal_at (c ∷ drop (i + 1) cs) (b ∷ behind) ≡ Err (b ∷ behind) = rw (ne_eqb b c other) refl in
    sym so_far ∙ ap (literal_at (drop i cs)) cut ∙ ap (λ l. literal_at l (b ∷ behind)) (at-place cs i c lt here) ∙ step
    ∙ ap (λ (l : List ℕ). Err l) (sym cut)

pub skip_more : (cs : List ℕ) (i : ℕ) (rest : List ℕ) (b c : ℕ) (behind : List ℕ) (total : Read (Unit {0}))
    → i < length cs → get_or cs i 0 ≡ c → rest ≡ b ∷ behind → b ≡ c → literal_at (drop i cs) rest ≡ total
    → literal_at (drop (i + 1) cs) behind ≡ total
unfolding literal_at
skip_more cs i rest b c behind total lt here cut same so_far =
    let step : literal_at (c ∷ drop (i + 1) cs) (b ∷ behind) ≡ literal_at (drop (i + 1) cs) behind =
    rw (eq-eqb b c same) refl in
    sym step ∙ sym (ap (literal_at (drop i cs)) cut ∙ ap (λ l. literal_at l (b ∷ behind)) (at-place cs i c lt here))
    ∙ so_far

pub skip_done : (cs : List ℕ) (i : ℕ) (rest : List ℕ) (total : Read (Unit {0})) → length cs ≤ i
    → literal_at (drop i cs) rest ≡ total → total ≡ Ok (tt, rest)
unfolding literal_at
skip_done cs i rest total le so_far = sym so_far ∙ ap (λ l. literal_at l rest) (drop_all i cs le)

-- Dropping digits, as a loop does.

pub digits_left : (i : ℕ) → i < 8 → 8 - i ≡ suc (8 - (i + 1))
digits_left i lt = omega (arith, lt)

pub begins_found : (i least most n : ℕ) (total : Bool) → i < 8 → is_between least most n ≡ true
    → begins_number (8 - i) least most n ≡ total → total ≡ true
begins_found i least most n total lt is so_far =
    sym so_far ∙ ap (λ m. begins_number m least most n) (digits_left i lt)
    ∙ or_left (is_between least most n) (ltb 0 n && begins_number (8 - (i + 1)) (least / 10) (most / 10) n) is

pub begins_zero : (i least most n : ℕ) (total : Bool) → i < 8 → is_between least most n ≡ false → n ≡ 0
    → begins_number (8 - i) least most n ≡ total → total ≡ false
begins_zero i least most n total lt outside none so_far =
    sym so_far ∙ ap (λ m. begins_number m least most n) (digits_left i lt)
    ∙ or_from (is_between least most n) (ltb 0 n && begins_number (8 - (i + 1)) (least / 10) (most / 10) n) outside
    (and_left (ltb 0 n) (begins_number (8 - (i + 1)) (least / 10) (most / 10) n) (ap (ltb 0) none))

above : (n : ℕ) → (n ≡ 0 → ⊥) → 0 < n
above zero some = absurd (some refl)
above (suc n) some = omega arith

pub begins_more : (i least most n : ℕ) (total : Bool) → i < 8 → is_between least most n ≡ false → (n ≡ 0 → ⊥)
    → begins_number (8 - i) least most n ≡ total → begins_number (8 - (i + 1)) (least / 10) (most / 10) n ≡ total
begins_more i least most n total lt outside some so_far =
    let positive : ltb 0 n ≡ true = lt-ltb 0 n (above n some) in
    let step : begins_number (suc (8 - (i + 1))) least most n ≡ begins_number (8 - (i + 1)) (least / 10) (most / 10) n =
    rw (outside, positive) refl in
    sym (ap (λ m. begins_number m least most n) (digits_left i lt) ∙ step) ∙ so_far

pub begins_last : (i least most n : ℕ) (total : Bool) → 8 ≤ i → begins_number (8 - i) least most n ≡ total
    → is_between least most n ≡ total
begins_last i least most n total le so_far =
    let none : 8 - i ≡ 0 = omega (arith, le) in sym (ap (λ m. begins_number m least most n) none) ∙ so_far

-- Adding digits, as a loop does.

pub digits_short : (least most end n : ℕ) (rest : List ℕ) (total : Read ℕ) → length rest ≡ 0
    → digits_at least most end n rest ≡ total → total ≡ Err rest
unfolding digits_at
digits_short least most end n [] total none so_far = sym so_far
digits_short least most end n (b ∷ rest) total none so_far = absurd (omega (arith, none))

pub digits_end : (least most end n : ℕ) (rest : List ℕ) (b : ℕ) (behind : List ℕ) (total : Read ℕ) → rest ≡ b ∷ behind
    → ends_number least most end n b ≡ true → digits_at least most end n rest ≡ total → total ≡ got n behind
unfolding digits_at
digits_end least most end n rest b behind total cut here so_far =
    let step : digits_at least most end n (b ∷ behind) ≡ got n behind = rw here refl in
    sym so_far ∙ ap (digits_at least most end n) cut ∙ step

pub digits_next : (least most end n : ℕ) (rest : List ℕ) (b : ℕ) (behind : List ℕ) (next : ℕ) (total : Read ℕ)
    → rest ≡ b ∷ behind → ends_number least most end n b ≡ false → is_next_digit least most n b ≡ true
    → next ≡ n * 10 + (b - 48)
    → digits_at least most end n rest ≡ total → digits_at least most end next behind ≡ total
unfolding digits_at
digits_next least most end n rest b behind next total cut on more is so_far =
    let step : digits_at least most end n (b ∷ behind) ≡ digits_at least most end (n * 10 + (b - 48)) behind =
    rw (on, more) refl in
    ap (λ m. digits_at least most end m behind) is ∙ sym step ∙ ap (digits_at least most end n) (sym cut) ∙ so_far

pub digits_other : (least most end n : ℕ) (rest : List ℕ) (b : ℕ) (behind : List ℕ) (total : Read ℕ) → rest ≡ b ∷ behind
    → ends_number least most end n b ≡ false → is_next_digit least most n b ≡ false
    → digits_at least most end n rest ≡ total → total ≡ Err rest
unfolding digits_at
digits_other least most end n rest b behind total cut on out so_far =
    let step : digits_at least most end n (b ∷ behind) ≡ Err (b ∷ behind) = rw (on, out) refl in
    sym so_far ∙ ap (digits_at least most end n) cut ∙ step ∙ ap (λ (l : List ℕ). Err l) (sym cut)

pub next_follows : (least most n b : ℕ) → (n ≡ 0 → ⊥) → is_digit b ≡ true
    → begins_number 8 least most (n * 10 + (b - 48)) ≡ true → is_next_digit least most n b ≡ true
next_follows least most n b some digit begins = rw (lt-ltb 0 n (above n some), digit, begins) refl

pub next_is_not : (least most n b : ℕ) → (n ≡ 0)
    ⊎ ((is_digit b ≡ false) ⊎ (begins_number 8 least most (n * 10 + (b - 48)) ≡ false))
    → is_next_digit least most n b ≡ false
next_is_not least most n b (inl none) = rw none refl
next_is_not least most n b (inr (inl other)) =
    and_left (ltb 0 n && is_digit b) (begins_number 8 least most (n * 10 + (b - 48)))
    (and_right (ltb 0 n) (is_digit b) other)
next_is_not least most n b (inr (inr outside)) =
    and_right (ltb 0 n && is_digit b) (begins_number 8 least most (n * 10 + (b - 48))) outside
