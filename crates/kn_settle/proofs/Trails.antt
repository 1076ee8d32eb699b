-- Numbers above 0, and the trail that tells where they stand.
use Rattle.std.proofs.Common.{◌≡◌, ℕ, zero, suc, Bool, true, false, Option, None, Some, List, [], ◌∷◌}
use Rattle.std.proofs.Common.{length, replicate, take, slice_get, slice_index, refl, sym, ap}
use Rattle.std.proofs.Common.{◌∙◌, subst, inl, inr, arith}
use Rattle.std.proofs.lemmas.Bool.{cases_lt, false≢true}
use Rattle.std.proofs.lemmas.List.{get_or-replicate, get_or_past}
use Rattle.std.proofs.lemmas.List.{length-replicate}
use Rattle.kn_settle.specs.Blank.{AreTrailed, IsBlank, Sizes}

abbrev is-some : {A : Type 0} → Option A → Bool
is-some None = false
is-some (Some x) = true

pub no-item : {A : Type 0} (x : A) → None ≡ Some x → ⊥
no-item x e = false≢true (ap is-some e)

-- and where all is 0 the trail may be empty
pub trailed-start : (xs trail : List ℕ) (n : ℕ) → xs ≡ replicate n 0 → trail ≡ [] → AreTrailed xs trail
trailed-start xs trail n e t = record {
  inside = λ i p at. absurd (no-item p (ap (λ r. slice_get r i) (sym t) ∙ at));
  exact = λ p some.
      let none : slice_index xs p ≡ 0 = ap (λ ys. slice_index ys p) e ∙
      (elim (cases_lt p n) [
        | inl within ↦ get_or-replicate n p 0 0 within
        | inr past ↦ get_or_past (replicate n 0) p 0 (let size : length {A = ℕ} (replicate n 0) ≡ n =
            length-replicate n 0 in omega (arith, size, past))
      ]) in
      absurd (omega (arith, none, some));
}

-- what is taken of one value again and again is that value again and again
taken : {X : Type 0} → (m n : ℕ) (x : X) → take n (replicate m x) ≡ replicate (length (take n (replicate m x))) x
taken m zero x = refl
taken zero (suc n) x = refl
taken (suc m) (suc n) x = ap (λ l. x ∷ l) (taken m n x)

pub same-taken : {X : Type 0} → (xs : List X) (m n : ℕ) (x : X) → xs ≡ replicate m x
    → take n xs ≡ replicate (length (take n xs)) x
same-taken xs m n x e = subst (λ l. take n l ≡ replicate (length (take n l)) x) (sym e) (taken m n x)

-- scratch of the same sizes
abbrev sizes : ℕ → ℕ → ℕ → Sizes
sizes p n v = record { principals = p; nodes = n; levels = v }

pub sizes-same : (p q n m v w : ℕ) → p ≡ q → n ≡ m → v ≡ w → sizes p n v ≡ sizes q m w
sizes-same p q n m v w a b c =
    ap (λ x. sizes x n v) a
    ∙ ap (λ x. sizes q x v) b
    ∙ ap (λ x. sizes q m x) c

pub blank-same : (p q n m v w : ℕ) (values reached counts counted : List ℕ) (buckets : List (List ℕ)) → p ≡ q → n ≡ m
    → v ≡ w → IsBlank p n v values reached counts counted buckets → IsBlank q m w values reached counts counted buckets
blank-same p q n m v w values reached counts counted buckets a b c h = record {
  values_none = h.values_none ∙ ap (λ x. replicate x 0) a;
  reached_none = h.reached_none;
  counts_none = h.counts_none ∙ ap (λ x. replicate x 0) b;
  counted_none = h.counted_none;
  buckets_none = h.buckets_none ∙ ap (λ x. replicate x []) c;
}
