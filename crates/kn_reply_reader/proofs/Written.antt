-- How numbers are written, and which digits are a number.
use Rattle.std.proofs.Common.{◌≡◌, ◌≢◌, ◌⊎◌, ℕ, zero, suc, ◌+◌, ◌-◌, ◌*◌, ◌/◌, ◌%◌, ◌^◌, ◌<◌, ◌≤◌, true, false, not}
use Rattle.std.proofs.Common.{◌&&◌, ◌||◌, ◌==◌, nat_le, List, Some, None, [], ◌∷◌, ◌++◌, length, get_or, refl, sym, ap}
use Rattle.std.proofs.Common.{◌∙◌, arith, subst, inl, inr, append_assoc, ltb}
use Rattle.std.specs.List.{list_all, list_any}
use Rattle.std.specs.Fmt.{decimal, digits, digits_onto, digit_glyph}
use Rattle.std.proofs.lemmas.Bool.{and_parts, and_from, or_cases, or_left, or_right, leb-true, le-leb, eqb-true}
use Rattle.std.proofs.lemmas.Bool.{eqb-false, ne_eqb, eq-eqb, lt-ltb, cond-true, cond-false, cases_eq, not-true}
use Rattle.std.proofs.lemmas.Bool.{not_from_false, false≢true, le-ltb, ltb-false, cases_Bool}
use Rattle.std.proofs.lemmas.List.{append-nil, nil_from_length}
use Rattle.std.proofs.lemmas.Fmt.{decimal_digit, digits_value-decimal, decimal-digits_value, decimal_injective}
use Rattle.std.proofs.lemmas.Option.{none-some, same_Some}
use Rattle.kn_base.specs.Decimal.{is_digit}
use Rattle.kn_base.specs.Decimal.{digits_value, digits_within}
use Rattle.kn_base.proofs.Cuts.{cut_once}
use Rattle.kn_base.proofs.Numerals.{own}
use Rattle.kn_proof.specs.Lines.{is_numeral}
use Rattle.kn_proof.proofs.Numerals.{numeral_parts, decimal_numeral, numeral_lacks}
use Rattle.kn_reply_reader.specs.Numerals.{has_form, begins_with_digit, IsBehindNumber, IsNumberAt, HasNoNumber}

-- a byte that is a digit
pub record IsDigit (b : ℕ) : Type 0 where
  pub low : 48 ≤ b
  pub high : b ≤ 57

pub digit_means : (b : ℕ) → is_digit b ≡ true → IsDigit b
digit_means b e = let parts = and_parts (nat_le 48 b) (nat_le b 57) e in
    record { low = leb-true 48 b parts.0; high = leb-true b 57 parts.1 }

pub digit_is : (b : ℕ) → 48 ≤ b → b ≤ 57 → is_digit b ≡ true
digit_is b low high = and_from (nat_le 48 b) (nat_le b 57) (le-leb 48 b low) (le-leb b 57 high)

glyph_is : (n : ℕ) → digit_glyph false (n % 10) ≡ 48 + n % 10
glyph_is n = cond-true (ltb (n % 10) 10) _ _ (lt-ltb (n % 10) 10 (omega arith))

-- the last k digits of n stand before acc
step : (k n : ℕ) (acc : List ℕ) → n / 10 ≢ 0
    → digits_onto (suc k) 10 false n acc ≡ digits_onto k 10 false (n / 10) ((48 + n % 10) ∷ acc)
step k n acc some =
    cond-false (n / 10 == 0) _ _ (ne_eqb (n / 10) 0 some)
    ∙ ap (λ (d : ℕ). digits_onto k 10 false (n / 10) (d ∷ acc)) (glyph_is n)

last : (k n : ℕ) (acc : List ℕ) → n / 10 ≡ 0 → digits_onto (suc k) 10 false n acc ≡ (48 + n % 10) ∷ acc
last k n acc none = cond-true (n / 10 == 0) _ _ (eq-eqb (n / 10) 0 none) ∙ ap (λ (d : ℕ). d ∷ acc) (glyph_is n)

-- the digits that stand before acc are of this form
pub record AreLastDigits (k n : ℕ) (acc text : List ℕ) : Type 0 where
  pub ds : List ℕ
  pub cut : text ≡ ds ++ acc
  pub all : list_all is_digit ds ≡ true
  pub few : length ds ≤ k
  pub some : 0 < k → 0 < length ds
  pub leading : get_or ds 0 0 ≡ 48 → (length ds ≡ k) ⊎ ((length ds ≡ 1) × (n ≡ 0))

all_more : (ds : List ℕ) (b : ℕ) → list_all is_digit ds ≡ true → is_digit b ≡ true
    → list_all is_digit (ds ++ b ∷ []) ≡ true
all_more [] b all is = rw is refl
all_more (d ∷ ds) b all is =
    let parts = and_parts (is_digit d) (list_all is_digit ds) all in
    and_from (is_digit d) (list_all is_digit (ds ++ b ∷ [])) parts.0 (all_more ds b parts.1 is)

length_more : (ds : List ℕ) (b : ℕ) → length (ds ++ b ∷ []) ≡ length ds + 1
length_more [] b = refl
length_more (d ∷ ds) b = let e = length_more ds b in omega (arith, e)

pub are_last_digits : (k n : ℕ) (acc : List ℕ) → AreLastDigits k n acc (digits_onto k 10 false n acc)
are_last_digits zero n acc =
    record {
      ds = [];
      cut = refl;
      all = refl;
      few = omega arith;
      some = λ p. absurd (omega (arith, p));
      leading =
          λ e. inl refl;
    }
are_last_digits (suc k) n acc = elim (cases_eq (n / 10) 0) [
  | inl none ↦ record {
    ds = (48 + n % 10) ∷ [];
    cut = last k n acc none;
    all = rw (digit_is (48 + n % 10) (omega arith) (omega arith)) refl;
    few = omega arith;
    some = λ p. omega arith;
    leading = λ e. inr (refl, omega (arith, none, e));
  }
  | inr more ↦
      let rest = are_last_digits k (n / 10) ((48 + n % 10) ∷ acc) in
      let size = length_more rest.ds (48 + n % 10) in
      record {
        ds = rest.ds ++ (48 + n % 10) ∷ [];
        cut = step k n acc more ∙ rest.cut ∙ sym (append_assoc rest.ds ((48 + n % 10) ∷ []) acc);
        all = all_more rest.ds (48 + n % 10) rest.all (digit_is (48 + n % 10) (omega arith) (omega arith));
        few = let few = rest.few in omega (arith, size, few);
        some = λ p. omega (arith, size);
        leading = λ e. leads k rest.ds (48 + n % 10) (n / 10) more rest.few rest.some rest.leading e;
      }
]
  where
    leads : (k : ℕ) (ds : List ℕ) (b m : ℕ) → m ≢ 0 → length ds ≤ k → (0 < k → 0 < length ds)
        → (get_or ds 0 0 ≡ 48 → (length ds ≡ k) ⊎ ((length ds ≡ 1) × (m ≡ 0)))
        → get_or (ds ++ b ∷ []) 0 0 ≡ 48 → (length (ds ++ b ∷ []) ≡ suc k) ⊎ ((length (ds ++ b ∷ []) ≡ 1) × (n ≡ 0))
    leads zero [] b m more few some leading e = inl refl
    leads (suc k) [] b m more few some leading e = absurd (omega (arith, some (omega arith)))
    leads k (d ∷ ds) b m more few some leading e = elim (leading e) [
      | inl full ↦ inl (let size = length_more (d ∷ ds) b in omega (arith, size, full))
      | inr one ↦ absurd (more one.1)
    ]

-- The other way: digits in front of which a number stands.

abbrev folded : ℕ → List ℕ → ℕ
folded n [] = n
folded n (b ∷ ds) = folded (n * 10 + (b - 48)) ds

pub unfolds : (ds : List ℕ) (u j : ℕ) (acc : List ℕ) → 0 < u → list_all is_digit ds ≡ true
    → digits_onto (length ds + j) 10 false (folded u ds) acc ≡ digits_onto j 10 false u (ds ++ acc)
unfolds [] u j acc some all = ap (λ (k : ℕ). digits_onto k 10 false u acc) (omega arith)
unfolds (b ∷ ds) u j acc some all =
    let parts = and_parts (is_digit b) (list_all is_digit ds) all in
    let digit = digit_means b parts.0 in
    let low = digit.low in
    let high = digit.high in
    let front : (u * 10 + (b - 48)) / 10 ≡ u = omega (arith, low, high) in
    let here : 48 + (u * 10 + (b - 48)) % 10 ≡ b = omega (arith, low, high) in
    let count : length (b ∷ ds) + j ≡ length ds + suc j = omega arith in
    ap (λ (k : ℕ). digits_onto k 10 false (folded (u * 10 + (b - 48)) ds) acc) count
    ∙ unfolds ds (u * 10 + (b - 48)) (suc j) acc (omega (arith, some)) parts.1
    ∙ step j (u * 10 + (b - 48)) (ds ++ acc) (λ e. omega (arith, e, front, some))
    ∙ ap (λ (m : ℕ). digits_onto j 10 false m ((48 + (u * 10 + (b - 48)) % 10) ∷ (ds ++ acc))) front
    ∙ ap (λ (d : ℕ). digits_onto j 10 false u (d ∷ (ds ++ acc))) here

-- Which digits are a number.

pub record Written (text : List ℕ) : Type 0 where
  pub number : ℕ
  pub same : text ≡ decimal number

pub written_means : (text : List ℕ) → list_all is_digit text ≡ true → has_form text ≡ true → Written text
unfolding digits
written_means [] all e = absurd (false≢true e)
written_means (b ∷ ds) all e =
    let outer = and_parts (nat_le 1 (length (b ∷ ds)) && nat_le (length (b ∷ ds)) 64)
    (length (b ∷ ds) == 1 || (length (b ∷ ds) == 64 || not (b == 48))) e in
    let few = leb-true (length (b ∷ ds)) 64
    (and_parts (nat_le 1 (length (b ∷ ds))) (nat_le (length (b ∷ ds)) 64) outer.0).1 in
    let parts = and_parts (is_digit b) (list_all is_digit ds) all in
    let digit = digit_means b parts.0 in
    let low = digit.low in
    let high = digit.high in
    elim (or_cases (length (b ∷ ds) == 1) (length (b ∷ ds) == 64 || not (b == 48)) outer.1) [
      | inl one ↦ short b ds low high parts.1 few
          (inl (nil_from_length ds (let l = eqb-true (length (b ∷ ds)) 1 one in omega (arith, l))))
      | inr other ↦ elim (or_cases (length (b ∷ ds) == 64) (not (b == 48)) other) [
        | inl full ↦ record {
          number = folded 1 (b ∷ ds);
          same =
              let l = eqb-true (length (b ∷ ds)) 64 full in
              let whole : length (b ∷ ds) + 0 ≡ 64 = omega (arith, l) in
              sym (append-nil (b ∷ ds)) ∙ sym (unfolds (b ∷ ds) 1 0 [] (omega arith) all)
              ∙ ap (λ (k : ℕ). digits_onto k 10 false (folded 1 (b ∷ ds)) []) whole;
        }
        | inr leading ↦ short b ds low high parts.1 few (inr (eqb-false b 48 (not-true (b == 48) leading)))
      ]
    ]
  where
    short : (b : ℕ) (ds : List ℕ) → 48 ≤ b → b ≤ 57 → list_all is_digit ds ≡ true → length (b ∷ ds) ≤ 64 → (ds ≡ [])
        ⊎ (b ≢ 48) → Written (b ∷ ds)
    short b ds low high all few (inl none) = record {
      number = b - 48;
      same =
          let back : 48 + (b - 48) ≡ b = omega (arith, low) in
          ap (λ (l : List ℕ). b ∷ l) none
          ∙ sym (decimal_digit (b - 48) (omega (arith, low, high)) ∙ ap (λ (d : ℕ). d ∷ []) back);
    }
    short b ds low high all few (inr some) =
        let here : 48 + (b - 48) % 10 ≡ b = omega (arith, low, high) in
        let whole : 64 ≡ length ds + suc (63 - length ds) = omega (arith, few) in
        record {
          number = folded (b - 48) ds;
          same =
              sym (ap (λ (k : ℕ). digits_onto k 10 false (folded (b - 48) ds) []) whole
              ∙ unfolds ds (b - 48) (suc (63 - length ds)) [] (omega (arith, low, some)) all
              ∙ last (63 - length ds) (b - 48) (ds ++ []) (omega (arith, low, high))
              ∙ ap (λ (d : ℕ). d ∷ (ds ++ [])) here ∙ ap (λ (l : List ℕ). b ∷ l) (append-nil ds));
        }

pub record IsWritten (text : List ℕ) : Type 0 where
  pub all : list_all is_digit text ≡ true
  pub form : has_form text ≡ true

pub written_is : (n : ℕ) → IsWritten (decimal n)
unfolding digits
written_is n =
    let d = are_last_digits 64 n [] in
    let same : decimal n ≡ d.ds = d.cut ∙ append-nil d.ds in
    subst IsWritten (sym same) (record {
      all = d.all;
      form = formed d.ds d.few (d.some (omega arith)) d.leading;
    })
  where
    formed : (ds : List ℕ) → length ds ≤ 64 → 0 < length ds
        → (get_or ds 0 0 ≡ 48 → (length ds ≡ 64) ⊎ ((length ds ≡ 1) × (n ≡ 0))) → has_form ds ≡ true
    formed ds few some leading =
        and_from (nat_le 1 (length ds) && nat_le (length ds) 64)
        (length ds == 1 || (length ds == 64 || not (get_or ds 0 0 == 48)))
        (and_from (nat_le 1 (length ds)) (nat_le (length ds) 64) (le-leb 1 (length ds) (omega (arith, some)))
        (le-leb (length ds) 64 few))
        (elim (cases_eq (get_or ds 0 0) 48) [
          | inl nought ↦ elim (leading nought) [
            | inl full ↦ or_right (length ds == 1) (length ds == 64 || not (get_or ds 0 0 == 48))
                (or_left (length ds == 64) (not (get_or ds 0 0 == 48)) (eq-eqb (length ds) 64 full))
            | inr one ↦ or_left (length ds == 1) (length ds == 64 || not (get_or ds 0 0 == 48))
                (eq-eqb (length ds) 1 one.0)
          ]
          | inr other ↦ or_right (length ds == 1) (length ds == 64 || not (get_or ds 0 0 == 48))
              (or_right (length ds == 64) (not (get_or ds 0 0 == 48))
              (not_from_false (get_or ds 0 0 == 48) (ne_eqb (get_or ds 0 0) 48 other)))
        ])

-- There is one way to cut digits off that no digit follows.

pub digits_once : (a b r s : List ℕ) → list_all is_digit a ≡ true → list_all is_digit b ≡ true
    → begins_with_digit r ≡ false → begins_with_digit s ≡ false
    → a ++ r ≡ b ++ s → (a ≡ b) × (r ≡ s)
digits_once [] [] r s all all' end end' e = (refl, e)
digits_once [] (y ∷ b) r s all all' end end' e =
    absurd (false≢true (sym end ∙ ap begins_with_digit e ∙ (and_parts (is_digit y) (list_all is_digit b) all').0))
digits_once (x ∷ a) [] r s all all' end end' e =
    absurd (false≢true (sym end' ∙ ap begins_with_digit (sym e) ∙ (and_parts (is_digit x) (list_all is_digit a) all).0))
digits_once (x ∷ a) (y ∷ b) r s all all' end end' e =
    let first : x ≡ y = cc in
    let rest : a ++ r ≡ b ++ s = cc in
    let same = digits_once a b r s (and_parts (is_digit x) (list_all is_digit a) all).1
    (and_parts (is_digit y) (list_all is_digit b) all').1 end end' rest in
    let more : a ≡ b = same.0 in
    (cc, same.1)

pub number_once : (n m : ℕ) (r s : List ℕ) → begins_with_digit r ≡ false → begins_with_digit s ≡ false
    → decimal n ++ r ≡ decimal m ++ s → (decimal n ≡ decimal m) × (r ≡ s)
number_once n m r s end end' e =
    digits_once (decimal n) (decimal m) r s (written_is n).all (written_is m).all end end' e

-- what is left behind the digits at the front is behind a number, where they are one
pub behind_digits : (left ds rest : List ℕ) → left ≡ ds ++ rest → list_all is_digit ds ≡ true
    → begins_with_digit rest ≡ false → has_form ds ≡ true
    → IsBehindNumber left (Some rest)
behind_digits left ds rest cut all end form =
    let w = written_means ds all form in (w.number, cut ∙ ap (λ (l : List ℕ). l ++ rest) w.same, end)

pub behind_none : (left ds rest : List ℕ) → left ≡ ds ++ rest → list_all is_digit ds ≡ true
    → begins_with_digit rest ≡ false → has_form ds ≡ false
    → IsBehindNumber left None
behind_none left ds rest cut all end form = λ number more other e.
    let same = digits_once ds (decimal number) rest more all (written_is number).all end other (sym cut ∙ e) in
    false≢true (sym form ∙ ap has_form same.0 ∙ (written_is number).form)

-- A number through the byte that ends it.

module _ (most end : ℕ) (left digits behind : List ℕ) (small : most < 2 ^ 64) (below : end < 48)
    (cut : left ≡ digits ++ end ∷ behind)
    (first : list_any (λ b. b == end) digits ≡ false) where
  -- these are the digits of a number that stands there
  digits_are : (number : ℕ) (rest : List ℕ) → IsNumberAt most end left number rest → (digits ≡ decimal number)
      × (number < 2 ^ 64)
  digits_are number rest at =
      let low = at.small in
      let few : number < 2 ^ 64 = omega (arith, low, small) in (
        (cut_once end digits (decimal number) behind rest first
            (numeral_lacks end (decimal number) below (decimal_numeral number few)) (sym cut ∙ at.cut)).0,
        few,
      )

  pub no_numeral : is_numeral digits ≡ false → HasNoNumber most end left
  no_numeral other number rest at =
      let same = digits_are number rest at in
      false≢true (sym other ∙ ap is_numeral same.0 ∙ decimal_numeral number same.1)

  pub no_small : None ≡ digits_within most digits → HasNoNumber most end left
  no_small above number rest at =
      let same = digits_are number rest at in
      let value : digits_value digits ≡ number = ap digits_value same.0 ∙ digits_value-decimal own number same.1 in
      none-some (digits_value digits) (above
      ∙ cond-false (ltb most (digits_value digits)) None (Some (digits_value digits))
      (le-ltb most (digits_value digits) (let low = at.small in omega (arith, low, value))))

  pub number_at : (number : ℕ) → is_numeral digits ≡ true → Some number ≡ digits_within most digits
      → IsNumberAt most end left number behind
  number_at number numeral read = elim (cases_Bool (ltb most (digits_value digits))) [
    | inl above ↦ absurd
        (none-some number
        (sym (read ∙ cond-true (ltb most (digits_value digits)) None (Some (digits_value digits)) above)))
    | inr within ↦
        let value : number ≡ digits_value digits =
        same_Some number (digits_value digits) (read
        ∙ cond-false (ltb most (digits_value digits)) None (Some (digits_value digits)) within) in
        let low : digits_value digits ≤ most = ltb-false most (digits_value digits) within in
        let p = numeral_parts digits numeral in
        record {
          small = omega (arith, value, low);
          cut = cut ∙ ap (λ (l : List ℕ). l ++ end ∷ behind)
              (sym (ap decimal value
              ∙ decimal-digits_value own digits p.digits p.some p.leading (omega (arith, low, small))));
        }
  ]

-- numbers that stand there are one
pub number_apart : (most end n m : ℕ) (r s : List ℕ) → most < 2 ^ 64 → end < 48 → n ≤ most → m ≤ most
    → decimal n ++ end ∷ r ≡ decimal m ++ end ∷ s → (n ≡ m) × (r ≡ s)
number_apart most end n m r s small below low low' e =
    let few : n < 2 ^ 64 = omega (arith, low, small) in
    let few' : m < 2 ^ 64 = omega (arith, low', small) in
    let same = cut_once end (decimal n) (decimal m) r s (numeral_lacks end (decimal n) below (decimal_numeral n few))
    (numeral_lacks end (decimal m) below (decimal_numeral m few')) e in
    (decimal_injective n m few few' same.0, same.1)
