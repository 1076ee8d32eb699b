-- Decimal numbers as they are written.
use Rattle.std.proofs.Common.{◌≡◌, ◌≢◌, ℕ, ◌^◌, ◌<◌, ◌≤◌, Bool, true, false, not, ◌||◌, ◌==◌, nat_le, List, [], ◌∷◌}
use Rattle.std.proofs.Common.{length, get_or, decimal, refl, ap, arith, ⊎_elim}
use Rattle.std.specs.Int.{IsInRange}
use Rattle.std.specs.List.{list_all, list_any}
use Rattle.std.proofs.lemmas.Bool.{and_parts, and_from, or_cases, cases_Bool, leb-true, le-leb, ne_eqb, cases_lt}
use Rattle.std.proofs.lemmas.Fmt.{first_decimal, decimal_digit}
use Rattle.std.proofs.lemmas.Grind.{common_steps}
use Rattle.std.proofs.lemmas.Str.Parse.{IsDigitsTest, WeighsDigits, IsNumeralModel, numerals_by_weight}
use Rattle.kn_base.specs.Decimal.{is_digit, digits_value}

abbrev pub AreDigits : List ℕ → Type 0
AreDigits text = list_all is_digit text ≡ true

digit_range : (c : ℕ) → is_digit c ≡ true → IsInRange 48 57 c
digit_range c h = let p = and_parts (nat_le 48 c) (nat_le c 57) h in (leb-true 48 c p.0, leb-true c 57 p.1)

range_digit : (c : ℕ) → IsInRange 48 57 c → is_digit c ≡ true
range_digit c h = and_from (nat_le 48 c) (nat_le c 57) (le-leb 48 c h.0) (le-leb c 57 h.1)

tests : IsDigitsTest AreDigits
tests = record {
  empty = refl;
  parts = λ c cs h. let p = and_parts (is_digit c) (list_all is_digit cs) h in (digit_range c p.0, p.1);
  more = λ c cs h rest. and_from (is_digit c) (list_all is_digit cs) (range_digit c h) rest;
}

weighs : WeighsDigits digits_value
weighs = record { empty = refl; more = λ c cs h. refl }

-- the digits and their value are as std's lemmas on numerals want them
pub own : IsNumeralModel AreDigits digits_value
own = numerals_by_weight AreDigits tests digits_value weighs

-- The first digit is 0 only where it is the only one.

pub alone : (text : List ℕ) → (length text == 1 || not (get_or text 0 0 == 48)) ≡ true → get_or text 0 0 ≡ 48
    → length text ≡ 1
alone text h zero = grind (arith, common_steps, or_cases (length text == 1) (not (get_or text 0 0 == 48)) h)

pub alone_from : (text : List ℕ) → (get_or text 0 0 ≡ 48 → length text ≡ 1)
    → (length text == 1 || not (get_or text 0 0 == 48)) ≡ true
alone_from text h = grind (arith, common_steps, cases_Bool (get_or text 0 0 == 48))

pub no_leading : (n : ℕ) → n < 2 ^ 64 → get_or (decimal n) 0 0 ≡ 48 → length (decimal n) ≡ 1
no_leading n small zero =
    ⊎_elim
    (λ (one : n < 10). ap length (decimal_digit n one))
    (λ (more : 10 ≤ n). let first : 48 < get_or (decimal n) 0 0 = first_decimal n (omega arith) small in
    absurd (omega arith))
    (cases_lt n 10)

-- what a test of each byte leaves out
pub lacks_by : (p : ℕ → Bool) (at : ℕ) → ((b : ℕ) → p b ≡ true → b ≢ at) → (text : List ℕ) → list_all p text ≡ true
    → list_any (λ b. b == at) text ≡ false
lacks_by p at other [] h = refl
lacks_by p at other (b ∷ text) h =
    let parts = and_parts (p b) (list_all p text) h in
    or_both (b == at) (list_any (λ b. b == at) text) (ne_eqb b at (other b parts.0)) (lacks_by p at other text parts.1)
  where
    or_both : (x y : Bool) → x ≡ false → y ≡ false → (x || y) ≡ false
    or_both x y e f = rw (e, f) refl

-- no byte below the digits is among them
pub digits_lack : (at : ℕ) (text : List ℕ) → at < 48 → list_all is_digit text ≡ true
    → list_any (λ b. b == at) text ≡ false
digits_lack at text below =
    lacks_by is_digit at (λ b digit e. let range = digit_range b digit in absurd (omega (arith, range.0))) text
