-- A number from one bound to another, read digit by digit.
use Rattle.std.proofs.Common.{◌≡◌, ◌⊎◌, ℕ, zero, suc, ◌+◌, ◌-◌, ◌*◌, ◌<◌, ◌≤◌, Bool, true, false, cond, ◌&&◌, ltb, leb}
use Rattle.std.proofs.Common.{List, [], ◌∷◌, ◌++◌, length, decimal, refl, sym, ap, ◌∙◌, subst, arith, append_assoc, inl}
use Rattle.std.proofs.Common.{inr}
use Rattle.std.specs.Prelude.{◌==◌, ◌/◌, ◌%◌}
use Rattle.std.proofs.lemmas.Bool.{and_parts, and_from, or_cases, or_left, or_right, cases_Bool, leb-true, leb-false}
use Rattle.std.proofs.lemmas.Bool.{le-leb, ltb-true}
use Rattle.std.proofs.lemmas.Bool.Decides.{Decides-eqb, Decides-ltb}
use Rattle.std.proofs.lemmas.List.{append-nil}
use Rattle.std.proofs.lemmas.Fmt.{decimal_step, decimal_digit, decimal_by_steps, length-decimal-le}
use Rattle.kn_base.specs.Decimal.{is_digit}
use Rattle.kn_follow.specs.Reading.{is_between, begins_number, is_next_digit, digits_at, number_at}
use Rattle.kn_follow.proofs.Readers.{IsReader, Fronts, got, stopped, got_is, stopped_is, chosen, not_longer, not_behind}

pub record IsFrom (least most n : ℕ) : Type 0 where
  pub least_is : least ≤ n
  pub most_is : n ≤ most

pub between_means : (least most n : ℕ) → is_between least most n ≡ true → IsFrom least most n
between_means least most n e = let parts = and_parts (leb least n) (leb n most) e in
    record { least_is = leb-true least n parts.0; most_is = leb-true n most parts.1 }

pub between_is : (least most n : ℕ) → IsFrom least most n → is_between least most n ≡ true
between_is least most n is = and_from (leb least n) (leb n most) (le-leb least n is.least_is) (le-leb n most is.most_is)

pub ltb_is : (a b : ℕ) → a < b → ltb a b ≡ true
ltb_is a b lt = (Decides-ltb a b).1 lt

-- Digits.

pub record IsDigit (b : ℕ) : Type 0 where
  pub low : 48 ≤ b
  pub high : b ≤ 57

pub digit_means : (b : ℕ) → is_digit b ≡ true → IsDigit b
digit_means b e = let parts = and_parts (leb 48 b) (leb b 57) e in
    record { low = leb-true 48 b parts.0; high = leb-true b 57 parts.1 }

digit_is : (b : ℕ) → IsDigit b → is_digit b ≡ true
digit_is b is = and_from (leb 48 b) (leb b 57) (le-leb 48 b is.low) (le-leb b 57 is.high)

-- the number that digits make of the one in front of them
abbrev folded : ℕ → List ℕ → ℕ
folded n [] = n
folded n (b ∷ ds) = folded (n * 10 + (b - 48)) ds

abbrev AreDigits : List ℕ → Type 0
AreDigits [] = Unit {0}
AreDigits (b ∷ ds) = IsDigit b × AreDigits ds

-- a number without so many of its last digits
abbrev dropped : ℕ → ℕ → ℕ
dropped zero k = k
dropped (suc m) k = dropped m (k / 10)

dropped-step : (m k : ℕ) → dropped m (k / 10) ≡ dropped m k / 10
dropped-step zero k = refl
dropped-step (suc m) k = dropped-step m (k / 10)

dropped-le : (m k : ℕ) → dropped m k ≤ k
dropped-le zero k = omega arith
dropped-le (suc m) k = let more = dropped-le m (k / 10) in omega (arith, more)

folded-dropped : (n : ℕ) (ds : List ℕ) → AreDigits ds → dropped (length ds) (folded n ds) ≡ n
folded-dropped n [] digits = refl
folded-dropped n (b ∷ ds) digits =
    let low = digits.0.low in
    let high = digits.0.high in
    let last : (n * 10 + (b - 48)) / 10 ≡ n = omega (arith, low, high) in
    dropped-step (length ds) (folded (n * 10 + (b - 48)) ds)
    ∙ ap (λ k. k / 10) (folded-dropped (n * 10 + (b - 48)) ds digits.1) ∙ last

folded_more : (n : ℕ) (ds : List ℕ) (b : ℕ) → folded n (ds ++ b ∷ []) ≡ folded n ds * 10 + (b - 48)
folded_more n [] b = refl
folded_more n (x ∷ ds) b = folded_more (n * 10 + (x - 48)) ds b

digits_more : (ds : List ℕ) (b : ℕ) → AreDigits ds → IsDigit b → AreDigits (ds ++ b ∷ [])
digits_more [] b digits is = (is, tt)
digits_more (x ∷ ds) b digits is = (digits.0, digits_more ds b digits.1 is)

-- Which numbers begin with given digits.

abbrev pub IsPositive : ℕ → ℕ → Type 0
IsPositive m n = (m ≡ 0) ⊎ (0 < n)

pub record Begins (least most n : ℕ) : Type 0 where
  pub number : ℕ
  pub digits : ℕ
  pub is : IsFrom least most number
  pub drops : dropped digits number ≡ n
  pub positive : IsPositive digits n

begins_from : (more m least most k n : ℕ) → m ≤ more → IsFrom least most k → dropped m k ≡ n → IsPositive m n
    → begins_number more least most n ≡ true
begins_from zero zero least most k n few is same positive = ap (is_between least most) (sym same)
    ∙ between_is least most k is
begins_from zero (suc m) least most k n few is same positive = absurd (omega (arith, few))
begins_from (suc more) zero least most k n few is same positive =
    or_left (is_between least most n) (ltb 0 n && begins_number more (least / 10) (most / 10) n)
    (ap (is_between least most) (sym same) ∙ between_is least most k is)
begins_from (suc more) (suc m) least most k n few is same (inl none) = absurd (cc (none))
begins_from (suc more) (suc m) least most k n few is same (inr some) =
    let least_is = is.least_is in
    let most_is = is.most_is in
    or_right (is_between least most n) (ltb 0 n && begins_number more (least / 10) (most / 10) n)
    (and_from (ltb 0 n) (begins_number more (least / 10) (most / 10) n) (ltb_is 0 n some)
    (begins_from more m (least / 10) (most / 10) (k / 10) n (omega (arith, few))
    (record { least_is = omega (arith, least_is); most_is = omega (arith, most_is) }) same (inr some)))

begins_here : (least most n : ℕ) → is_between least most n ≡ true → Begins least most n
begins_here least most n e =
    record { number = n; digits = 0; is = between_means least most n e; drops = refl; positive = inl refl }

-- a number behind whose last digit another is known
behind_digit : (least most n : ℕ) → least ≤ most → 0 < n → Begins (least / 10) (most / 10) n → Begins least most n
behind_digit least most n order some b =
    let low = b.is.least_is in
    let high = b.is.most_is in
    elim (cases_Bool (leb least (b.number * 10))) [
      | inl h ↦
          let under = leb-true least (b.number * 10) h in
          let whole : (b.number * 10) / 10 ≡ b.number = omega arith in
          record {
            number = b.number * 10;
            digits = suc b.digits;
            is =
                record { least_is = under; most_is = omega (arith, high) };
            drops = ap (dropped b.digits) whole
                ∙ b.drops;
            positive = inr some;
          }
      | inr h ↦
          let over = leb-false least (b.number * 10) h in
          let whole : least / 10 ≡ b.number = omega (arith, low, over) in
          record {
            number = least;
            digits = suc b.digits;
            is = record { least_is = omega arith; most_is = order };
            drops = ap (dropped b.digits) whole ∙ b.drops;
            positive = inr some;
          }
    ]

begins_means : (more least most n : ℕ) → least ≤ most → begins_number more least most n ≡ true → Begins least most n
begins_means zero least most n order e = begins_here least most n e
begins_means (suc more) least most n order e =
    elim (or_cases (is_between least most n) (ltb 0 n && begins_number more (least / 10) (most / 10) n) e) [
      | inl h ↦ begins_here least most n h
      | inr h ↦
          let parts = and_parts (ltb 0 n) (begins_number more (least / 10) (most / 10) n) h in
          let tenths : least / 10 ≤ most / 10 = omega (arith, order) in
          behind_digit least most n order (ltb-true 0 n parts.0)
          (begins_means more (least / 10) (most / 10) n tenths parts.1)
    ]

pub begins_within : (more least most n : ℕ) → begins_number more least most n ≡ true → n ≤ most
begins_within zero least most n e = (between_means least most n e).most_is
begins_within (suc more) least most n e =
    elim (or_cases (is_between least most n) (ltb 0 n && begins_number more (least / 10) (most / 10) n) e) [
      | inl h ↦ (between_means least most n h).most_is
      | inr h ↦
          let parts = and_parts (ltb 0 n) (begins_number more (least / 10) (most / 10) n) h in
          let less = begins_within more (least / 10) (most / 10) n parts.1 in
          omega (arith, less)
    ]

-- How they are written.

pub record Writes (n k : ℕ) : Type 0 where
  pub behind : List ℕ
  pub same : decimal k ≡ decimal n ++ behind

written : (m k n : ℕ) → k < 1000000000 → dropped m k ≡ n → IsPositive m n → Writes n k
written zero k n small same positive = record { behind = []; same = ap decimal same ∙ sym (append-nil (decimal n)) }
written (suc m) k n small same (inl none) = absurd (cc (none))
written (suc m) k n small same (inr some) =
    let less = dropped-le m (k / 10) in
    let more : 10 ≤ k = omega (arith, less, same, some) in
    let rest = written m (k / 10) n (omega (arith, small)) same (inr some) in
    record {
      behind = rest.behind ++ (48 + k % 10) ∷ [];
      same = decimal_step k more (omega (arith, small))
          ∙ ap (λ l. l ++ (48 + k % 10) ∷ []) rest.same ∙ append_assoc (decimal n) rest.behind ((48 + k % 10) ∷ []);
    }

pub written-more : (n b : ℕ) → 0 < n → n * 10 + (b - 48) < 10000000000 → IsDigit b
    → decimal (n * 10 + (b - 48)) ≡ decimal n ++ b ∷ []
written-more n b some small digit =
    let low = digit.low in
    let high = digit.high in
    let tens : (n * 10 + (b - 48)) / 10 ≡ n = omega (arith, low, high) in
    let last : 48 + (n * 10 + (b - 48)) % 10 ≡ b = omega (arith, low, high) in
    decimal_step (n * 10 + (b - 48)) (omega (arith, some)) (omega (arith, small))
    ∙ ap (λ k. decimal k ++ (48 + (n * 10 + (b - 48)) % 10) ∷ []) tens ∙ ap (λ d. decimal n ++ d ∷ []) last

-- a number as it is written
pub record IsSpelled (k : ℕ) (text : List ℕ) : Type 0 where
  pub first : ℕ
  pub rest : List ℕ
  pub cut : text ≡ first ∷ rest
  pub digit : IsDigit first
  pub digits : AreDigits rest
  pub value : folded (first - 48) rest ≡ k
  pub leading : (rest ≡ []) ⊎ (0 < first - 48)

spelled-one : (k : ℕ) → k < 10 → IsSpelled k ((48 + k) ∷ [])
spelled-one k small = record {
  first = 48 + k;
  rest = [];
  cut = refl;
  digit = record { low = omega arith; high = omega (arith, small) };
  digits = tt;
  value = omega arith;
  leading = inl refl;
}

spelled-leading : (k : ℕ) (rest : List ℕ) (first : ℕ) → 10 ≤ k → folded (first - 48) rest ≡ k / 10 → (rest ≡ [])
    ⊎ (0 < first - 48) → 0 < first - 48
spelled-leading k rest first some value (inr positive) = positive
spelled-leading k rest first some value (inl none) =
    let same : first - 48 ≡ k / 10 = ap (folded (first - 48)) (sym none) ∙ value in omega (arith, some, same)

spelled-more : (k : ℕ) (text : List ℕ) → 10 ≤ k → IsSpelled (k / 10) text → IsSpelled k (text ++ (48 + k % 10) ∷ [])
spelled-more k text some s =
    let digit : IsDigit (48 + k % 10) = record { low = omega arith; high = omega arith } in
    let last : (k / 10) * 10 + (48 + k % 10 - 48) ≡ k = omega arith in
    record {
      first = s.first;
      rest = s.rest ++ (48 + k % 10) ∷ [];
      cut = ap (λ l. l ++ (48 + k % 10) ∷ []) s.cut;
      digit = s.digit;
      digits = digits_more s.rest (48 + k % 10) s.digits digit;
      value = folded_more (s.first - 48) s.rest (48 + k % 10) ∙ ap (λ n. n * 10 + (48 + k % 10 - 48)) s.value ∙ last;
      leading = inr (spelled-leading k s.rest s.first some s.value s.leading);
    }

pub spelled : (k : ℕ) → k < 1000000000 → IsSpelled k (decimal k)
spelled k small = decimal_by_steps IsSpelled spelled-one (λ n ds. spelled-more n ds) k (omega (arith, small))

-- The reader.

abbrev pub ended : ℕ → ℕ → List ℕ
ended end k = decimal k ++ end ∷ []

pub record AreBounds (least most end : ℕ) : Type 0 where
  pub order : least ≤ most
  pub small : most < 1000000000
  pub plain : is_digit end ≡ false

next_means : (least most n b : ℕ) → is_next_digit least most n b ≡ true → (0 < n) × IsDigit b
    × (begins_number 8 least most (n * 10 + (b - 48)) ≡ true)
next_means least most n b e =
    let parts = and_parts (ltb 0 n && is_digit b) (begins_number 8 least most (n * 10 + (b - 48))) e in
    let both = and_parts (ltb 0 n) (is_digit b) parts.0 in
    (ltb-true 0 n both.0, digit_means b both.1, parts.1)

next_is : (least most n b : ℕ) → 0 < n → IsDigit b → begins_number 8 least most (n * 10 + (b - 48)) ≡ true
    → is_next_digit least most n b ≡ true
next_is least most n b some digit begins =
    and_from (ltb 0 n && is_digit b) (begins_number 8 least most (n * 10 + (b - 48)))
    (and_from (ltb 0 n) (is_digit b) (ltb_is 0 n some) (digit_is b digit)) begins

no_digit : (end b : ℕ) → is_digit end ≡ false → IsDigit b → (b == end) ≡ false
no_digit end b plain digit = by (b == end) refl
  where
    by : (t : Bool) → (b == end) ≡ t → (b == end) ≡ false
    by true e = let same = (Decides-eqb b end).0 e in absurd (cc (sym (digit_is b digit) ∙ ap is_digit same ∙ plain))
    by false e = e

digits-sound : (least most end n : ℕ) (text : List ℕ) (k : ℕ) (rest : List ℕ) → AreBounds least most end → n ≤ most
    → digits_at least most end n text ≡ got k rest → IsFrom least most k × (decimal n ++ text ≡ decimal k ++ end ∷ rest)
unfolding digits_at
digits-sound least most end n [] k rest bounds within e = absurd (cc (e))
digits-sound least most end n (b ∷ text) k rest bounds within e =
    elim (chosen (b == end && is_between least most n) (got n text)
    (cond (is_next_digit least most n b) (digits_at least most end (n * 10 + (b - 48)) text) (stopped (b ∷ text)))
    (got k rest) e) [
      | inl h ↦
          let parts = and_parts (b == end) (is_between least most n) h.0 in
          let same = (Decides-eqb b end).0 parts.0 in
          let found = got_is n k text rest h.1 in
          let is : IsFrom least most k =
          subst (λ m. IsFrom least most m) found.0 (between_means least most n parts.1) in (
            is,
            ap (λ m. decimal m ++ b ∷ text) found.0 ∙ ap (λ x. decimal k ++ x ∷ text) same
                ∙ ap (λ l. decimal k ++ end ∷ l) found.1,
          )
      | inr h ↦ elim (chosen (is_next_digit least most n b) (digits_at least most end (n * 10 + (b - 48)) text)
          (stopped (b ∷ text)) (got k rest) h.1) [
            | inl g ↦
                let next = next_means least most n b g.0 in
                let small = bounds.small in
                let inside = begins_within 8 least most (n * 10 + (b - 48)) next.2 in
                let more = digits-sound least most end (n * 10 + (b - 48)) text k rest bounds inside g.1 in
                let one : decimal n ++ b ∷ text ≡ decimal (n * 10 + (b - 48)) ++ text =
                sym (append_assoc (decimal n) (b ∷ []) text)
                ∙ ap (λ l. l ++ text) (sym (written-more n b next.0 (omega (arith, inside, small)) next.1)) in
                (more.0, one ∙ more.1)
            | inr g ↦ absurd (cc (g.1))
          ]
    ]

digits-whole : (least most end n : ℕ) (ds : List ℕ) (k : ℕ) (rest : List ℕ) → AreBounds least most end
    → IsFrom least most k → AreDigits ds → length ds ≤ 8 → folded n ds ≡ k → (ds ≡ []) ⊎ (0 < n)
    → digits_at least most end n (ds ++ end ∷ rest) ≡ got k rest
unfolding digits_at
digits-whole least most end n [] k rest bounds is digits few value positive =
    let here : (end == end && is_between least most n) ≡ true =
    and_from (end == end) (is_between least most n) ((Decides-eqb end end).1 refl) (ap (is_between least most) value
    ∙ between_is least most k is) in
    rw here (ap (λ m. got m rest) value)
digits-whole least most end n (b ∷ ds) k rest bounds is digits few value (inl none) = absurd (cc (none))
digits-whole least most end n (b ∷ ds) k rest bounds is digits few value (inr some) =
    let next = n * 10 + (b - 48) in
    let fewer : length ds ≤ 8 = omega (arith, few) in
    let drops : dropped (length ds) k ≡ next = ap (dropped (length ds)) (sym value) ∙ folded-dropped next ds digits.1 in
    let begins = begins_from 8 (length ds) least most k next fewer is drops (inr (omega (arith, some))) in
    let go : is_next_digit least most n b ≡ true = next_is least most n b some digits.0 begins in
    let not_end : (b == end) ≡ false = no_digit end b bounds.plain digits.0 in
    rw (not_end, go)
    (digits-whole least most end next ds k rest bounds is digits.1 fewer value (inr (omega (arith, some))))

pub record NumberFronts (least most end n : ℕ) (text rest : List ℕ) : Type 0 where
  pub front : List ℕ
  pub number : ℕ
  pub behind : List ℕ
  pub is : IsFrom least most number
  pub cut : text ≡ front ++ rest
  pub begins : ended end number ≡ (decimal n ++ front) ++ behind

fronts_here : (least most end n : ℕ) (text rest : List ℕ) → AreBounds least most end
    → begins_number 8 least most n ≡ true → text ≡ rest → NumberFronts least most end n text rest
fronts_here least most end n text rest bounds begins same =
    let b = begins_means 8 least most n bounds.order begins in
    let small = bounds.small in
    let high = b.is.most_is in
    let w = written b.digits b.number n (omega (arith, small, high)) b.drops b.positive in
    record {
      front = [];
      number = b.number;
      behind = w.behind ++ end ∷ [];
      is = b.is;
      cut = same;
      begins = ap (λ l. l ++ end ∷ []) w.same ∙ append_assoc (decimal n) w.behind (end ∷ [])
          ∙ ap (λ l. l ++ (w.behind ++ end ∷ [])) (sym (append-nil (decimal n)));
    }

digits-fronts : (least most end n : ℕ) (text rest : List ℕ) → AreBounds least most end
    → begins_number 8 least most n ≡ true → digits_at least most end n text ≡ stopped rest
    → NumberFronts least most end n text rest
unfolding digits_at
digits-fronts least most end n [] rest bounds begins e =
    fronts_here least most end n [] rest bounds begins (stopped_is [] rest e)
digits-fronts least most end n (b ∷ text) rest bounds begins e =
    elim (chosen (b == end && is_between least most n) (got n text)
    (cond (is_next_digit least most n b) (digits_at least most end (n * 10 + (b - 48)) text) (stopped (b ∷ text)))
    (stopped rest) e) [
      | inl h ↦ absurd (cc (h.1))
      | inr h ↦ elim (chosen (is_next_digit least most n b) (digits_at least most end (n * 10 + (b - 48)) text)
          (stopped (b ∷ text)) (stopped rest) h.1) [
            | inl g ↦
                let next = next_means least most n b g.0 in
                let small = bounds.small in
                let inside = begins_within 8 least most (n * 10 + (b - 48)) next.2 in
                let f = digits-fronts least most end (n * 10 + (b - 48)) text rest bounds next.2 g.1 in
                let one = written-more n b next.0 (omega (arith, inside, small)) next.1 in
                record {
                  front = b ∷ f.front;
                  number = f.number;
                  behind = f.behind;
                  is = f.is;
                  cut = ap (λ l. b ∷ l) f.cut;
                  begins = f.begins ∙ ap (λ l. (l ++ f.front) ++ f.behind) one
                      ∙ ap (λ l. l ++ f.behind) (append_assoc (decimal n) (b ∷ []) f.front);
                }
            | inr g ↦ fronts_here least most end n (b ∷ text) rest bounds begins (stopped_is (b ∷ text) rest g.1)
          ]
    ]

digits-local : (least most end n : ℕ) (front : List ℕ) (b : ℕ) (more other : List ℕ) → AreBounds least most end
    → digits_at least most end n (front ++ b ∷ more) ≡ stopped (b ∷ more)
    → digits_at least most end n (front ++ b ∷ other) ≡ stopped (b ∷ other)
unfolding digits_at
digits-local least most end n [] b more other bounds e =
    elim (chosen (b == end && is_between least most n) (got n more)
    (cond (is_next_digit least most n b) (digits_at least most end (n * 10 + (b - 48)) more) (stopped (b ∷ more)))
    (stopped (b ∷ more)) e) [
      | inl h ↦ absurd (cc (h.1))
      | inr h ↦ elim (chosen (is_next_digit least most n b) (digits_at least most end (n * 10 + (b - 48)) more)
          (stopped (b ∷ more)) (stopped (b ∷ more)) h.1) [
            | inl g ↦
                let next = next_means least most n b g.0 in
                let f = digits-fronts least most end (n * 10 + (b - 48)) more (b ∷ more) bounds next.2 g.1 in
                absurd (not_longer f.front more b f.cut)
            | inr g ↦ rw (h.0, g.0) refl
          ]
    ]
digits-local least most end n (x ∷ front) b more other bounds e =
    elim (chosen (x == end && is_between least most n) (got n (front ++ b ∷ more))
    (cond (is_next_digit least most n x) (digits_at least most end (n * 10 + (x - 48)) (front ++ b ∷ more))
    (stopped (x ∷ (front ++ b ∷ more)))) (stopped (b ∷ more)) e) [
      | inl h ↦ absurd (cc (h.1))
      | inr h ↦ elim (chosen (is_next_digit least most n x)
          (digits_at least most end (n * 10 + (x - 48)) (front ++ b ∷ more)) (stopped (x ∷ (front ++ b ∷ more)))
          (stopped (b ∷ more)) h.1) [
            | inl g ↦ rw (h.0, g.0) (digits-local least most end (n * 10 + (x - 48)) front b more other bounds g.1)
            | inr g ↦ absurd (not_behind x front more b (stopped_is (x ∷ (front ++ b ∷ more)) (b ∷ more) g.1))
          ]
    ]

first_begins : (b : ℕ) → IsDigit b → b ∷ [] ≡ decimal (b - 48)
first_begins b digit =
    let low = digit.low in
    let high = digit.high in
    let same : 48 + (b - 48) ≡ b = omega (arith, low) in
    ap (λ x. x ∷ []) (sym same) ∙ sym (decimal_digit (b - 48) (omega (arith, high)))

first_means : (least most b : ℕ) → (is_digit b && begins_number 8 least most (b - 48)) ≡ true → IsDigit b
    × (begins_number 8 least most (b - 48) ≡ true)
first_means least most b e = let parts = and_parts (is_digit b) (begins_number 8 least most (b - 48)) e in
    (digit_means b parts.0, parts.1)

number-sound : (least most end : ℕ) (text : List ℕ) (k : ℕ) (rest : List ℕ) → AreBounds least most end
    → number_at least most end text ≡ got k rest → IsFrom least most k × (text ≡ ended end k ++ rest)
unfolding number_at
number-sound least most end [] k rest bounds e = absurd (cc (e))
number-sound least most end (b ∷ text) k rest bounds e =
    elim (chosen (is_digit b && begins_number 8 least most (b - 48)) (digits_at least most end (b - 48) text)
    (stopped (b ∷ text)) (got k rest) e) [
      | inl h ↦
          let first = first_means least most b h.0 in
          let more = digits-sound least most end (b - 48) text k rest bounds
          (begins_within 8 least most (b - 48) first.1) h.1 in (
            more.0,
            ap (λ l. l ++ text) (first_begins b first.0) ∙ more.1
                ∙ sym (append_assoc (decimal k) (end ∷ []) rest),
          )
      | inr h ↦ absurd (cc (h.1))
    ]

number-whole : (least most end k : ℕ) (rest : List ℕ) → AreBounds least most end → IsFrom least most k
    → number_at least most end (ended end k ++ rest) ≡ got k rest
unfolding number_at
number-whole least most end k rest bounds is =
    let small = bounds.small in
    let high = is.most_is in
    let short : k < 1000000000 = omega (arith, small, high) in
    let s = spelled k short in
    let size : length (decimal k) ≤ 9 =
    length-decimal-le 9 k (omega arith) (omega (arith, short)) (omega (arith, short)) in
    let same = ap length s.cut in
    let few : length s.rest ≤ 8 = omega (arith, size, same) in
    let drops : dropped (length s.rest) k ≡ s.first - 48 = ap (dropped (length s.rest)) (sym s.value)
    ∙ folded-dropped (s.first - 48) s.rest s.digits in
    let positive : IsPositive (length s.rest) (s.first - 48) = some-or-none s.rest (s.first - 48) s.leading in
    let begins = begins_from 8 (length s.rest) least most k (s.first - 48) few is drops positive in
    let go : (is_digit s.first && begins_number 8 least most (s.first - 48)) ≡ true =
    and_from (is_digit s.first) (begins_number 8 least most (s.first - 48)) (digit_is s.first s.digit) begins in
    ap (number_at least most end) (append_assoc (decimal k) (end ∷ []) rest ∙ ap (λ l. l ++ end ∷ rest) s.cut)
    ∙ rw go (digits-whole least most end (s.first - 48) s.rest k rest bounds is s.digits few s.value s.leading)
  where
    some-or-none : (ds : List ℕ) (n : ℕ) → (ds ≡ []) ⊎ (0 < n) → IsPositive (length ds) n
    some-or-none ds n (inl none) = inl (ap length none)
    some-or-none ds n (inr some) = inr some

any_front : (least most end : ℕ) (text rest : List ℕ) → AreBounds least most end → text ≡ rest
    → Fronts (IsFrom least most) (ended end) text rest
any_front least most end text rest bounds same =
    record {
      front = [];
      value = least;
      behind = ended end least;
      fits =
          record { least_is = omega arith; most_is = bounds.order };
      cut = same;
      begins = refl;
    }

number-fronts : (least most end : ℕ) (text rest : List ℕ) → AreBounds least most end
    → number_at least most end text ≡ stopped rest → Fronts (IsFrom least most) (ended end) text rest
unfolding number_at
number-fronts least most end [] rest bounds e = any_front least most end [] rest bounds (stopped_is [] rest e)
number-fronts least most end (b ∷ text) rest bounds e =
    elim (chosen (is_digit b && begins_number 8 least most (b - 48)) (digits_at least most end (b - 48) text)
    (stopped (b ∷ text)) (stopped rest) e) [
      | inl h ↦
          let first = first_means least most b h.0 in
          let f = digits-fronts least most end (b - 48) text rest bounds first.1 h.1 in
          record {
            front = b ∷ f.front;
            value = f.number;
            behind = f.behind;
            fits = f.is;
            cut = ap (λ l. b ∷ l) f.cut;
            begins = f.begins ∙ ap (λ l. (l ++ f.front) ++ f.behind) (sym (first_begins b first.0));
          }
      | inr h ↦ any_front least most end (b ∷ text) rest bounds (stopped_is (b ∷ text) rest h.1)
    ]

number-local : (least most end : ℕ) (front : List ℕ) (b : ℕ) (more other : List ℕ) → AreBounds least most end
    → number_at least most end (front ++ b ∷ more) ≡ stopped (b ∷ more)
    → number_at least most end (front ++ b ∷ other) ≡ stopped (b ∷ other)
unfolding number_at
number-local least most end [] b more other bounds e =
    elim (chosen (is_digit b && begins_number 8 least most (b - 48)) (digits_at least most end (b - 48) more)
    (stopped (b ∷ more)) (stopped (b ∷ more)) e) [
      | inl h ↦
          let first = first_means least most b h.0 in
          let f = digits-fronts least most end (b - 48) more (b ∷ more) bounds first.1 h.1 in
          absurd (not_longer f.front more b f.cut)
      | inr h ↦ rw h.0 refl
    ]
number-local least most end (x ∷ front) b more other bounds e =
    elim (chosen (is_digit x && begins_number 8 least most (x - 48))
    (digits_at least most end (x - 48) (front ++ b ∷ more)) (stopped (x ∷ (front ++ b ∷ more))) (stopped (b ∷ more))
    e) [
      | inl h ↦ rw h.0 (digits-local least most end (x - 48) front b more other bounds h.1)
      | inr h ↦ absurd (not_behind x front more b (stopped_is (x ∷ (front ++ b ∷ more)) (b ∷ more) h.1))
    ]

pub number-reader : (least most end : ℕ) → AreBounds least most end
    → IsReader (IsFrom least most) (ended end) (number_at least most end)
number-reader least most end bounds = record {
  sound = λ text k rest e. number-sound least most end text k rest bounds e;
  whole = λ k rest is. number-whole least most end k rest bounds is;
  fronts = λ text rest e. number-fronts least most end text rest bounds e;
  local = λ front b more other e. number-local least most end front b more other bounds e;
}
