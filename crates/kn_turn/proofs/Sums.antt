-- Sums over a list of which one place changes, and tests of two numbers that count.
use Rattle.std.proofs.Common.{◌≡◌, ◌≢◌, ℕ, zero, suc, ◌+◌, ◌≤◌, ◌==◌, Bool, true, false, List, [], ◌∷◌, ◌++◌, set, refl}
use Rattle.std.proofs.Common.{sym, ap, arith, eq-eqb, ne_eqb}
use mathlib.Core.Option.{some, some-injective, some-ne-none}
use lib.ListN.{get_elem?}
use Rattle.kn_turn.specs.Counts.{one_if, total}

pub one_if-same : (a b : ℕ) → a ≡ b → one_if (a == b) ≡ 1
one_if-same a b e = ap one_if (eq-eqb a b e)

pub one_if-other : (a b : ℕ) → a ≢ b → one_if (a == b) ≡ 0
one_if-other a b n = ap one_if (ne_eqb a b n)

-- where the test counts nothing the numbers differ
pub other-one_if : (a b : ℕ) → one_if (a == b) ≡ 0 → a ≢ b
other-one_if a b z e = let one = one_if-same a b e in absurd (omega arith)

pub one_if-le : (b : Bool) → one_if b ≤ 1
one_if-le true = omega arith
one_if-le false = omega arith

module _ {A : Type 0} where
  pub total-append : (f : A → ℕ) (xs ys : List A) → total f (xs ++ ys) ≡ total f xs + total f ys
  total-append f [] ys = omega arith
  total-append f (x ∷ xs) ys = let h = total-append f xs ys in omega arith

  pub total-set : (f : A → ℕ) (l : List A) (i : ℕ) (v w : A) → get_elem? l i ≡ some v
      → total f (set l i w) + f v ≡ total f l + f w
  total-set f [] i v w e = absurd (some-ne-none v (sym e))
  total-set f (x ∷ xs) zero v w e = let h : f x ≡ f v = ap f (some-injective x v e) in omega arith
  total-set f (x ∷ xs) (suc i) v w e = let h = total-set f xs i v w e in omega arith

  pub total-snoc : (f : A → ℕ) (l : List A) (w : A) → total f (l ++ w ∷ []) ≡ total f l + f w
  total-snoc f [] w = omega arith
  total-snoc f (x ∷ xs) w = let h = total-snoc f xs w in omega arith

  pub total-at : (f : A → ℕ) (l : List A) (i : ℕ) (v : A) → get_elem? l i ≡ some v → f v ≤ total f l
  total-at f [] i v e = absurd (some-ne-none v (sym e))
  total-at f (x ∷ xs) zero v e = let h : f x ≡ f v = ap f (some-injective x v e) in omega arith
  total-at f (x ∷ xs) (suc i) v e = let h = total-at f xs i v e in omega arith

  -- two places count both
  pub total-two : (f : A → ℕ) (l : List A) (i j : ℕ) (v w : A) → i ≢ j → get_elem? l i ≡ some v → get_elem? l j ≡ some w
      → f v + f w ≤ total f l
  total-two f [] i j v w n e d = absurd (some-ne-none v (sym e))
  total-two f (x ∷ xs) zero zero v w n e d = absurd (n refl)
  total-two f (x ∷ xs) zero (suc j) v w n e d = let h : f x ≡ f v = ap f (some-injective x v e) in
      let t = total-at f xs j w d in omega arith
  total-two f (x ∷ xs) (suc i) zero v w n e d = let h : f x ≡ f w = ap f (some-injective x w d) in
      let t = total-at f xs i v e in omega arith
  total-two f (x ∷ xs) (suc i) (suc j) v w n e d = let t = total-two f xs i j v w (λ is. n (ap suc is)) e d in
      omega arith

  pub total-zero : (f : A → ℕ) (l : List A) → ((j : ℕ) (v : A) → get_elem? l j ≡ some v → f v ≡ 0) → total f l ≡ 0
  total-zero f [] h = refl
  total-zero f (x ∷ xs) h = let here = h zero x refl in let more = total-zero f xs (λ j v e. h (suc j) v e) in
      omega arith

  pub total-le : (f g : A → ℕ) (l : List A) → ((j : ℕ) (v : A) → get_elem? l j ≡ some v → f v ≤ g v)
      → total f l ≤ total g l
  total-le f g [] h = omega arith
  total-le f g (x ∷ xs) h = let here = h zero x refl in let more = total-le f g xs (λ j v e. h (suc j) v e) in
      omega arith

  -- the greater sum is greater by what one place has more
  pub total-gap : (f g : A → ℕ) (l : List A) (i : ℕ) (v : A) → ((j : ℕ) (u : A) → get_elem? l j ≡ some u → f u ≤ g u)
      → get_elem? l i ≡ some v → total f l + g v ≤ total g l + f v
  total-gap f g [] i v h e = absurd (some-ne-none v (sym e))
  total-gap f g (x ∷ xs) zero v h e =
      let a : f x ≡ f v = ap f (some-injective x v e) in
      let b : g x ≡ g v = ap g (some-injective x v e) in
      let more = total-le f g xs (λ j u d. h (suc j) u d) in omega arith
  total-gap f g (x ∷ xs) (suc i) v h e =
      let here = h zero x refl in let more = total-gap f g xs i v (λ j u d. h (suc j) u d) e in omega arith
