-- A number that is read is written so, and what is written is read.
use Rattle.std.proofs.Common.{◌≡◌, ℕ, ◌^◌, ◌<◌, ◌≤◌, Bool, true, false, cond, not, ◌&&◌, ◌||◌, ◌==◌, List, length}
use Rattle.std.proofs.Common.{get_or, decimal, Some, None, refl, sym, ap, ◌∙◌, subst, arith}
use Rattle.std.specs.Prelude.{nat_le}
use Rattle.std.specs.List.{list_all, list_any}
use Rattle.std.proofs.lemmas.Bool.{and_parts, and_from, leb-true, le-leb, cond-true}
use Rattle.std.proofs.lemmas.Fmt.{digits_decimal, digits_value-decimal, decimal-digits_value, decimal_nonempty}
use Rattle.std.proofs.lemmas.Fmt.{length-decimal-le}
use Rattle.std.proofs.lemmas.Option.{same_Some}
use Rattle.std.proofs.lemmas.Str.Parse.{digits_value_short}
use Rattle.kn_base.specs.Decimal.{is_digit, digits_value, has_decimal_form, decimal_of}
use Rattle.kn_base.proofs.Numerals.{own, alone, alone_from, no_leading, digits_lack}

-- What is read.

-- a text is this number as it is written, and has at most nine digits
pub record IsWritten (text : List ℕ) (n : ℕ) : Type 0 where
  pub same : text ≡ decimal n
  pub short : n < 1000000000

pub number_written : (text : List ℕ) (n : ℕ) → decimal_of text ≡ Some n → IsWritten text n
number_written text n e = by (has_decimal_form text && list_all is_digit text) refl e
  where
    by : (t : Bool) → (has_decimal_form text && list_all is_digit text) ≡ t
        → cond t (Some (digits_value text)) None ≡ Some n → IsWritten text n
    by true is e =
        let parts = and_parts (has_decimal_form text) (list_all is_digit text) is in
        let form = and_parts (nat_le 1 (length text) && nat_le (length text) 9)
        (length text == 1 || not (get_or text 0 0 == 48)) parts.0 in
        let sizes = and_parts (nat_le 1 (length text)) (nat_le (length text) 9) form.0 in
        let small : digits_value text < 10 ^ 9 =
        digits_value_short own text 9 parts.1 (leb-true (length text) 9 sizes.1) in
        let whole : decimal (digits_value text) ≡ text =
        decimal-digits_value own text parts.1 (leb-true 1 (length text) sizes.0) (alone text form.1) (omega arith) in
        let same : digits_value text ≡ n = same_Some (digits_value text) n e in
        record { same = sym whole ∙ ap decimal same; short = subst (λ k. k < 1000000000) same small }
    by false is e = cc

-- What is written.

pub number_read : (n : ℕ) → n < 1000000000 → decimal_of (decimal n) ≡ Some n
number_read n small =
    let text = decimal n in
    let wide : n < 2 ^ 64 = omega arith in
    let few : length text ≤ 9 = length-decimal-le 9 n (omega arith) (omega arith) wide in
    let sized : (nat_le 1 (length text) && nat_le (length text) 9) ≡ true =
    and_from (nat_le 1 (length text)) (nat_le (length text) 9) (le-leb 1 (length text) (decimal_nonempty n wide))
    (le-leb (length text) 9 few) in
    let formed : has_decimal_form text ≡ true =
    and_from (nat_le 1 (length text) && nat_le (length text) 9) (length text == 1 || not (get_or text 0 0 == 48)) sized
    (alone_from text (no_leading n wide)) in
    cond-true (has_decimal_form text && list_all is_digit text) (Some (digits_value text)) None
    (and_from (has_decimal_form text) (list_all is_digit text) formed (digits_decimal own n wide))
    ∙ ap (λ k. Some k) (digits_value-decimal own n wide)

-- no byte below the digits is in a number
pub number_lacks : (at n : ℕ) → at < 48 → n < 1000000000 → list_any (λ b. b == at) (decimal n) ≡ false
number_lacks at n below small = digits_lack at (decimal n) below (digits_decimal own n (omega arith))
