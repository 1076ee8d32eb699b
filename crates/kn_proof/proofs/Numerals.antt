-- Decimal numbers of any length, and those that are short.
use Rattle.std.proofs.Common.{◌≡◌, ℕ, ◌^◌, ◌<◌, ◌≤◌, true, false, not, ◌&&◌, ◌||◌, ◌==◌, nat_le, List, length, get_or}
use Rattle.std.proofs.Common.{decimal, Option, Some, None, IfSome, sym, ap, ◌∙◌, arith, ⊎_elim}
use Rattle.std.specs.List.{list_all, list_any}
use Rattle.std.proofs.lemmas.Bool.{and_parts, and_from, leb-true, le-leb, cond-true, cond-false, cases_lt, lt-leb}
use Rattle.std.proofs.lemmas.Bool.{and_left, and_right}
use Rattle.std.proofs.lemmas.Str.Parse.{digits_value_short}
use Rattle.std.proofs.lemmas.Fmt.{digits_decimal, digits_value-decimal, decimal-digits_value, decimal_nonempty}
use Rattle.kn_base.specs.Decimal.{is_digit, digits_value, has_decimal_form, decimal_of}
use Rattle.kn_base.proofs.Numerals.{own, alone, alone_from, no_leading, digits_lack}
use Rattle.kn_proof.specs.Lines.{is_numeral, IsShort, IsSmall}

-- what makes a numeral
pub record IsNumeralText (text : List ℕ) : Type 0 where
  pub some : 1 ≤ length text
  pub digits : list_all is_digit text ≡ true
  pub leading : get_or text 0 0 ≡ 48 → length text ≡ 1

pub numeral_parts : (text : List ℕ) → is_numeral text ≡ true → IsNumeralText text
numeral_parts text h =
    let outer = and_parts (nat_le 1 (length text) && list_all is_digit text)
    (length text == 1 || not (get_or text 0 0 == 48)) h in
    let inner = and_parts (nat_le 1 (length text)) (list_all is_digit text) outer.0 in
    record { some = leb-true 1 (length text) inner.0; digits = inner.1; leading = alone text outer.1 }

pub numeral_from : (text : List ℕ) → IsNumeralText text → is_numeral text ≡ true
numeral_from text p =
    and_from (nat_le 1 (length text) && list_all is_digit text) (length text == 1 || not (get_or text 0 0 == 48))
    (and_from (nat_le 1 (length text)) (list_all is_digit text) (le-leb 1 (length text) p.some) p.digits)
    (alone_from text p.leading)

-- numbers are written as numerals
pub decimal_numeral : (n : ℕ) → n < 2 ^ 64 → is_numeral (decimal n) ≡ true
decimal_numeral n small =
    numeral_from (decimal n) (record {
      some = decimal_nonempty n small;
      digits = digits_decimal own n small;
      leading =
          no_leading n small;
    })

pub numeral_written : (text : List ℕ) → is_numeral text ≡ true → length text ≤ 9 → decimal (digits_value text) ≡ text
numeral_written text h short =
    let p = numeral_parts text h in
    let small : digits_value text < 10 ^ 9 = digits_value_short own text 9 p.digits short in
    decimal-digits_value own text p.digits p.some p.leading (omega arith)

pub short_value : (text : List ℕ) → is_numeral text ≡ true → length text ≤ 9 → digits_value text < 1000000000
short_value text h short = digits_value_short own text 9 (numeral_parts text h).digits short

-- a number of at most nine digits is read
pub read_short : (text : List ℕ) → is_numeral text ≡ true → length text ≤ 9 → decimal_of text ≡ Some (digits_value text)
read_short text h short =
    let outer = and_parts (nat_le 1 (length text) && list_all is_digit text)
    (length text == 1 || not (get_or text 0 0 == 48)) h in
    let inner = and_parts (nat_le 1 (length text)) (list_all is_digit text) outer.0 in
    let sized : (nat_le 1 (length text) && nat_le (length text) 9) ≡ true =
    and_from (nat_le 1 (length text)) (nat_le (length text) 9) inner.0 (le-leb (length text) 9 short) in
    let formed : has_decimal_form text ≡ true =
    and_from (nat_le 1 (length text) && nat_le (length text) 9) (length text == 1 || not (get_or text 0 0 == 48)) sized
    outer.1 in
    cond-true (has_decimal_form text && list_all is_digit text) (Some (digits_value text)) None
    (and_from (has_decimal_form text) (list_all is_digit text) formed inner.1)

-- and a longer one isn't
pub read_long : (text : List ℕ) → 9 < length text → decimal_of text ≡ None
read_long text long =
    let sized : (nat_le 1 (length text) && nat_le (length text) 9) ≡ false =
    and_right (nat_le 1 (length text)) (nat_le (length text) 9) (lt-leb (length text) 9 long) in
    let formed : has_decimal_form text ≡ false =
    and_left (nat_le 1 (length text) && nat_le (length text) 9) (length text == 1 || not (get_or text 0 0 == 48))
    sized in
    cond-false (has_decimal_form text && list_all is_digit text) (Some (digits_value text)) None
    (and_left (has_decimal_form text) (list_all is_digit text) formed)

pub numeral_lacks : (at : ℕ) (text : List ℕ) → at < 48 → is_numeral text ≡ true → list_any (λ b. b == at) text ≡ false
numeral_lacks at text below h = digits_lack at text below (numeral_parts text h).digits

pub number_spelled : (text : List ℕ) (r : Option ℕ) → is_numeral text ≡ true → r ≡ decimal_of text
    → IfSome r (λ n. decimal n ≡ text)
number_spelled text r h e =
    ⊎_elim
    (λ (long : 9 < length text). let none : r ≡ None = e ∙ read_long text long in rw none tt)
    (λ (short : length text ≤ 9). let some : r ≡ Some (digits_value text) = e ∙ read_short text h short in
    rw some (numeral_written text h short))
    (cases_lt 9 (length text))

pub number_range : (text : List ℕ) (r : Option ℕ) → is_numeral text ≡ true → r ≡ decimal_of text
    → IfSome r (λ n. n < 1000000000)
number_range text r h e =
    ⊎_elim
    (λ (long : 9 < length text). let none : r ≡ None = e ∙ read_long text long in rw none tt)
    (λ (short : length text ≤ 9). let some : r ≡ Some (digits_value text) = e ∙ read_short text h short in
    rw some (short_value text h short))
    (cases_lt 9 (length text))

value_spelled : (text : List ℕ) (n : ℕ) → decimal n ≡ text → n < 1000000000 → digits_value text ≡ n
value_spelled text n e range = ap digits_value (sym e) ∙ digits_value-decimal own n (omega arith)

pub small_spelled : (text : List ℕ) (n : ℕ) → decimal n ≡ text → n < 1000000000 → IsShort text → n ≤ 255 → IsSmall text
small_spelled text n e range short small = record {
  short = short;
  small = let value = value_spelled text n e range in
      omega arith;
}

pub large_spelled : (text : List ℕ) (n : ℕ) → decimal n ≡ text → n < 1000000000 → 255 < n → ¬ IsSmall text
large_spelled text n e range large is = let value = value_spelled text n e range in let small = is.small in
    absurd (omega arith)
