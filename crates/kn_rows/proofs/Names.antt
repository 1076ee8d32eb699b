-- Names, and which of them have a number.
use Rattle.std.proofs.Common.{◌≡◌, ℕ, zero, suc, ◌<◌, ◌⊎◌, Bool, true, false, ◌||◌, List, [], ◌∷◌, Some, inl, inr}
use Rattle.std.proofs.Common.{refl, sym, ap, ◌∙◌, arith, true≢false}
use Rattle.std.specs.List.{list_any}
use Rattle.std.specs.Str.{bytes_eq}
use Rattle.std.proofs.lemmas.Bool.{false_from_ne_true}
use Rattle.std.proofs.lemmas.Option.{slice_get_within}
use Rattle.std.proofs.lemmas.Slice.Eq.{bytes_eq-Decides}
use Rattle.kn_rows.specs.Numbering.{IsNumber, IsAbsent}

-- texts that are equal pass the test, and no others
pub bytes_eq-same : (name other : List ℕ) → name ≡ other → bytes_eq name other ≡ true
bytes_eq-same name other e = (bytes_eq-Decides name other).1 e

pub bytes_eq-true : (name other : List ℕ) → bytes_eq name other ≡ true → name ≡ other
bytes_eq-true name other e = (bytes_eq-Decides name other).0 e

pub true_or : (a b : Bool) → a ≡ true → (a || b) ≡ true
true_or true b is = refl
true_or false b is = cc

pub or_as_true : (a b : Bool) → b ≡ true → (a || b) ≡ true
or_as_true true b is = refl
or_as_true false b is = is

-- who has a number is among the names, and nobody else
pub number-among : (names : List (List ℕ)) (name : List ℕ) (p : ℕ) → IsNumber names name p
    → list_any (bytes_eq name) names ≡ true
number-among [] name p here = absurd (cc)
number-among (other ∷ names) name zero here =
    let same : other ≡ name = cc in
    ap (λ b. b || list_any (bytes_eq name) names) (bytes_eq-same name other (sym same))
number-among (other ∷ names) name (suc p) here =
    or_as_true (bytes_eq name other) (list_any (bytes_eq name) names) (number-among names name p here)

pub absent-among : (names : List (List ℕ)) (name : List ℕ) → IsAbsent names name
    → list_any (bytes_eq name) names ≡ false
absent-among [] name none = refl
absent-among (other ∷ names) name none =
    let differs = false_from_ne_true (bytes_eq name other) (λ e. none 0 (ap Some (sym (bytes_eq-true name other e)))) in
    ap (λ b. b || list_any (bytes_eq name) names) differs ∙ absent-among names name (λ p here. none (suc p) here)

-- a name with its number, or none
pub number_or_none : (names : List (List ℕ)) (name : List ℕ) → ((p : ℕ) × IsNumber names name p) ⊎ IsAbsent names name
number_or_none [] name = inr (λ p e. none_here name p e)
  where
    none_here : (name : List ℕ) (p : ℕ) → IsNumber [] name p → ⊥
    none_here name p e = let within : p < 0 = slice_get_within [] p name e in omega arith
number_or_none (n ∷ names) name = by (bytes_eq n name) refl (number_or_none names name)
  where
    behind : bytes_eq n name ≡ false → IsAbsent names name → (p : ℕ) → IsNumber (n ∷ names) name p → ⊥
    behind differs none zero e = let same : n ≡ name = cc in
        absurd (true≢false (sym (bytes_eq-same n name same) ∙ differs))
    behind differs none (suc p) e = none p e

    by : (b : Bool) → bytes_eq n name ≡ b → ((p : ℕ) × IsNumber names name p) ⊎ IsAbsent names name
        → ((p : ℕ) × IsNumber (n ∷ names) name p) ⊎ ((p : ℕ) → IsNumber (n ∷ names) name p → ⊥)
    by true e rest = inl (0, ap Some (bytes_eq-true n name e))
    by false e (inl number) = inl (suc number.0, number.1)
    by false e (inr none) = inr (behind e none)
