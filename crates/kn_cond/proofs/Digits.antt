-- The digits that a text begins with, and their number.
use Rattle.std.proofs.Common.{◌≡◌, ℕ, suc, ◌+◌, ◌-◌, ◌*◌, ◌^◌, ◌<◌, ◌≤◌}
use Rattle.std.proofs.Common.{Bool, true, false, cond, List, [], ◌∷◌, length, take, drop, get_or, refl, sym, ap}
use Rattle.std.proofs.Common.{◌∙◌, arith, lit<}
use Rattle.std.specs.Prelude.{nat_le}
use Rattle.std.proofs.Math.Nat.{pow-le-pow_right, mul-le-mul_left}
use Rattle.std.proofs.lemmas.Bool.{leb-true, and_parts}
use Rattle.std.specs.List.{list_all, prefix_len}
use Rattle.kn_base.specs.Decimal.{is_digit, digits_value}
use Rattle.kn_base.proofs.Digits.{rest_at}
use Rattle.kn_cond.specs.Meaning.{front_digits}

suc_front : (n byte : ℕ) (bytes : List ℕ) → take (1 + n) (byte ∷ bytes) ≡ byte ∷ take n bytes
suc_front n byte bytes = let e : 1 + n ≡ suc n = omega arith in ap (λ m. take m (byte ∷ bytes)) e

pub all_digits : (text : List ℕ) → list_all is_digit (front_digits text) ≡ true
all_digits [] = refl
all_digits (byte ∷ bytes) = by (is_digit byte) refl (all_digits bytes)
  where
    by : (b : Bool) → is_digit byte ≡ b → list_all is_digit (front_digits bytes) ≡ true
        → list_all is_digit (take (cond b (1 + prefix_len is_digit bytes) 0) (byte ∷ bytes)) ≡ true
    by true told rest = simp (suc_front (prefix_len is_digit bytes) byte bytes, told) rest
    by false told rest = refl

-- what is read of digits is at most their number
pub read_within : (digits : List ℕ) (i number : ℕ) → number * 10 ^ length (drop i digits) + digits_value (drop i digits)
    ≡ digits_value digits → number ≤ digits_value digits
read_within digits i number e =
    let none : 0 ≤ length (drop i digits) = omega arith in
    let least : 1 ≤ 10 ^ length (drop i digits) = pow-le-pow_right {n = 10} (lit< tt) none in
    let times : number * 1 ≤ number * 10 ^ length (drop i digits) = mul-le-mul_left number least in
    omega arith

pub digit_here : (digits : List ℕ) (i : ℕ) → i < length digits → list_all is_digit (drop i digits) ≡ true
    → is_digit (get_or digits i 0) ≡ true
digit_here digits i within all =
    (and_parts (is_digit (get_or digits i 0)) (list_all is_digit (drop (i + 1) digits))
    (ap (list_all is_digit) (sym (rest_at digits i within)) ∙ all)).0

pub digit_small : (byte : ℕ) → is_digit byte ≡ true → byte - 48 ≤ 9
digit_small byte told = let least : byte ≤ 57 = leb-true byte 57 (and_parts (nat_le 48 byte) (nat_le byte 57) told).1 in
    omega arith
