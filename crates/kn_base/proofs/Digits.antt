-- Decimal digits.
use Rattle.std.proofs.Common.{◌≡◌, ℕ, true, false, Bool, nat_lt, Some, None, refl, ap, lt-ltb, ◌+◌, ◌-◌, ◌*◌, ◌^◌, ◌<◌}
use Rattle.std.proofs.Common.{◌≤◌, List, ◌∷◌, length, drop, get_or, arith, add-one, lit<}
use Rattle.std.proofs.Math.Nat.{pow-suc, pow-le-pow_right, le-mul_of_pos_right}
use Rattle.std.proofs.lemmas.Bool.Decides.{nat_tests}
use Rattle.std.proofs.lemmas.List.{drop_all, drop_more}
use Rattle.std.specs.List.{list_all}
use Rattle.kn_base.specs.Decimal.{digits_value, digits_within, is_digit}

-- ten times a number below a power of ten, and a digit, is below the next
pub one_digit_more : (i number digit : ℕ) → number < 10 ^ i → digit ≤ 9 → number * 10 + digit < 10 ^ (i + 1)
one_digit_more i number digit below small = rw (add-one i, pow-suc 10 i) (omega arith)

-- what is read of at most nine digits fits 32 bits, as far as there is one to come
pub nine_digits : (i number : ℕ) → i < 9 → number < 10 ^ i → number * 10 + 9 < 2 ^ 32
nine_digits i number few below =
    let le : 10 ^ i ≤ 10 ^ 8 = let eight : i ≤ 8 = omega arith in pow-le-pow_right {n = 10} (lit< tt) eight in
    omega arith

-- the first digit of the rest is added to what is read
pub digit_read : (rest : List ℕ) (number byte whole : ℕ)
    → number * 10 ^ length (byte ∷ rest) + digits_value (byte ∷ rest) ≡ whole
    → (number * 10 + (byte - 48)) * 10 ^ length rest + digits_value rest ≡ whole
digit_read rest number byte whole e =
    let step : number * (10 ^ length rest * 10) + ((byte - 48) * 10 ^ length rest + digits_value rest) ≡ whole =
    rw (pow-suc 10 (length rest)) at e in
    grind arith

-- what is left of a text begins with the byte at its place
pub rest_at : (text : List ℕ) (i : ℕ) → i < length text → drop i text ≡ get_or text i 0 ∷ drop (i + 1) text
rest_at text i within = drop_more text i 0 within

-- one digit of a text is read
pub digit_read_at : (text : List ℕ) (i number whole : ℕ) → i < length text
    → number * 10 ^ length (drop i text) + digits_value (drop i text) ≡ whole
    → (number * 10 + (get_or text i 0 - 48)) * 10 ^ length (drop (i + 1) text) + digits_value (drop (i + 1) text)
    ≡ whole
digit_read_at text i number whole within e =
    digit_read (drop (i + 1) text) number (get_or text i 0) whole (rw (rest_at text i within) at e)

-- a digit leaves it to the rest whether all are digits
pub digits_left : (text : List ℕ) (i : ℕ) (all : Bool) → i < length text → is_digit (get_or text i 0) ≡ true
    → list_all is_digit (drop i text) ≡ all → list_all is_digit (drop (i + 1) text) ≡ all
digits_left text i all within digit e = let step = rw (rest_at text i within) at e in rw digit at step

-- a digit never makes less of what is read, so that what is above a limit stays there
pub read_over : (limit : ℕ) (digits : List ℕ) (i value : ℕ) → i < length digits
    → value * 10 ^ length (drop i digits) + digits_value (drop i digits) ≡ digits_value digits
    → limit < value * 10 + (get_or digits i 0 - 48) → None ≡ digits_within limit digits
read_over limit digits i value within e over =
    let read = digit_read_at digits i value (digits_value digits) within e in
    let k = length (drop (i + 1) digits) in
    let some : 10 ^ 0 ≤ 10 ^ k = pow-le-pow_right {n = 10} (lit< tt) {i = 0} (omega arith) in
    let le : value * 10 + (get_or digits i 0 - 48) ≤ (value * 10 + (get_or digits i 0 - 48)) * 10 ^ k =
    le-mul_of_pos_right _ (omega arith) in
    rw (lt-ltb limit (digits_value digits) (omega (arith, read, le, over))) refl

pub read_all : (limit : ℕ) (digits : List ℕ) (i value : ℕ) → length digits ≤ i
    → value * 10 ^ length (drop i digits) + digits_value (drop i digits) ≡ digits_value digits → value ≤ limit
    → Some value ≡ digits_within limit digits
read_all limit digits i value past e low =
    let last : value * 10 ^ length (drop i digits) + digits_value (drop i digits) ≡ value * 1 + 0 =
    ap (λ rest. value * 10 ^ length rest + digits_value rest) (drop_all i digits past) in
    let whole : digits_value digits ≡ value = omega (arith, last, e) in
    let within : nat_lt limit value ≡ false = grind (arith, nat_tests) in
    rw (whole, within) refl
