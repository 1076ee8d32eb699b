-- The list of those who are flagged.
use Rattle.std.proofs.Common.{◌≡◌, ◌⊎◌, ℕ, suc, zero, ◌+◌, ◌<◌, ◌≤◌, Bool, true, false, Some, List, [], ◌∷◌, ◌++◌}
use Rattle.std.proofs.Common.{length, get_or, replicate, slice_get, slice_set, refl, sym, ap, ◌∙◌, subst, inl, inr}
use Rattle.std.proofs.Common.{append-nil, arith}
use Rattle.std.proofs.lemmas.Option.{slice_get-get_or}
use Rattle.std.proofs.lemmas.Bool.{cases_lt, cases_eq, false≢true}
use Rattle.std.proofs.lemmas.List.{append_assoc, get_or-set_same, get_or-set_other, get_or_past}
use Rattle.kn_watch.specs.Affected.{IsSubset, is_affected, sum_over}
use Rattle.kn_watch.specs.Found.{AreFound, sum_of}
use mathlib.Core.List.{IsPrefix}
use Rattle.kn_watch.proofs.Sums.{sum_of-ones, sum_of-push, sum_over-none, sum_over-ones, sum_over-set}

pub none-flagged : (n p : ℕ) → is_affected (replicate n false) p ≡ false
none-flagged zero p = refl
none-flagged (suc n) zero = refl
none-flagged (suc n) (suc p) = none-flagged n p

-- who isn't there is among any
pub none-subset : (n : ℕ) (others : List Bool) → IsSubset (replicate n false) others
none-subset n others = λ p e. absurd (false≢true (sym (none-flagged n p) ∙ e))

-- at first nobody is flagged
pub found-none : (n : ℕ) → AreFound (replicate n false) []
found-none n = record {
  flagged = λ i p e. absurd (cc);
  listed = λ p e. absurd (false≢true (sym (none-flagged n p) ∙ e));
  sums = λ f. sym (sum_over-none f 0 n);
}

pub get-front : (xs ys : List ℕ) (i p : ℕ) → slice_get xs i ≡ Some p → slice_get (xs ++ ys) i ≡ Some p
get-front [] ys i p e = absurd (cc)
get-front (x ∷ xs) ys zero p e = e
get-front (x ∷ xs) ys (suc i) p e = get-front xs ys i p e

get-last : (xs : List ℕ) (y : ℕ) → slice_get (xs ++ y ∷ []) (length xs) ≡ Some y
get-last [] y = refl
get-last (x ∷ xs) y = get-last xs y

get-pushed : (xs : List ℕ) (y i p : ℕ) → slice_get (xs ++ y ∷ []) i ≡ Some p → (slice_get xs i ≡ Some p) ⊎ (y ≡ p)
get-pushed [] y zero p e = inr (cc)
get-pushed [] y (suc i) p e = absurd (cc)
get-pushed (x ∷ xs) y zero p e = inl e
get-pushed (x ∷ xs) y (suc i) p e = get-pushed xs y i p e

-- who is flagged past the end
pub flag-within : (flags : List Bool) (p : ℕ) → is_affected flags p ≡ true → p < length flags
flag-within flags p e =
    elim (cases_lt p (length flags)) [
      | inl within ↦ within
      | inr past ↦ absurd (false≢true (sym (get_or_past flags p false past) ∙ e))
    ]

pub flag-set : (flags : List Bool) (p : ℕ) → p < length flags → is_affected (slice_set flags p true) p ≡ true
flag-set flags p l = get_or-set_same flags p true false l

pub flag-kept : (flags : List Bool) (p : ℕ) → IsSubset flags (slice_set flags p true)
flag-kept flags p = λ q e.
    elim (cases_eq q p) [
      | inl same ↦
          let within : p < length flags = subst (λ r. r < length flags) same (flag-within flags q e) in
          ap (is_affected (slice_set flags p true)) same ∙ flag-set flags p within
      | inr differs ↦ get_or-set_other flags p q true false differs ∙ e
    ]

-- one more of the second
pub among-set : (flags others : List Bool) (p : ℕ) → is_affected others p ≡ true → IsSubset flags others
    → IsSubset (slice_set flags p true) others
among-set flags others p is h = λ q e.
    elim (cases_eq q p) [
      | inl same ↦ ap (is_affected others) same ∙ is
      | inr differs ↦ h q (sym (get_or-set_other flags p q true false differs) ∙ e)
    ]

-- one more is flagged and listed
pub found-next : (flags : List Bool) (found : List ℕ) (p : ℕ) → p < length flags → is_affected flags p ≡ false
    → AreFound flags found → AreFound (slice_set flags p true) (found ++ p ∷ [])
found-next flags found p l other h = record {
  flagged = λ i q e.
      elim (get-pushed found p i q e) [
        | inl before ↦ flag-kept flags p q (h.flagged i q before)
        | inr last ↦ subst (λ r. is_affected (slice_set flags p true) r ≡ true) last (flag-set flags p l)
      ];
  listed = λ q e.
      elim (cases_eq q p) [
        | inl same ↦ (length found, get-last found p ∙ ap (λ r. Some r) (sym same))
        | inr differs ↦
            let (i, at) = h.listed q (sym (get_or-set_other flags p q true false differs) ∙ e) in
            (i, get-front found (p ∷ []) i q at)
      ];
  sums = λ f.
      let here : f (0 + p) ≡ f p = ap f (omega arith) in
      sum_of-push f found p ∙ ap (λ n. n + f p) (h.sums f) ∙ ap (λ n. sum_over f 0 flags + n) (sym here)
      ∙ sym (sum_over-set f 0 flags p l other);
}

-- no more are listed than there are flags
pub found-length : (flags : List Bool) (found : List ℕ) → AreFound flags found → length found ≤ length flags
found-length flags found h =
    let one : sum_of (λ _. 1) found ≡ length found = sum_of-ones found in
    let two : sum_of (λ _. 1) found ≡ sum_over (λ _. 1) 0 flags = h.sums (λ _. 1) in
    let three : sum_over (λ _. 1) 0 flags ≤ length flags = sum_over-ones 0 flags in
    omega arith

pub front-self : (xs : List ℕ) → IsPrefix xs xs
front-self xs = ([], append-nil xs)

pub front-next : (xs ys zs : List ℕ) → IsPrefix xs ys → IsPrefix ys zs → IsPrefix xs zs
front-next xs ys zs (more, e) (rest, f) = (more ++ rest, sym (append_assoc xs more rest) ∙ ap (λ ws. ws ++ rest) e ∙ f)

-- who stands in a front stays flagged
pub front-kept : (flags next : List Bool) (found more : List ℕ) → AreFound flags found → AreFound next more
    → IsPrefix found more → IsSubset flags next
front-kept flags next found more h g (rest, e) = λ p is.
    let (i, at) = h.listed p is in
    g.flagged i p (ap (λ xs. slice_get xs i) (sym e) ∙ get-front found rest i p at)

-- the principal that was read of the list
pub found-read : (found seen : List ℕ) (n at : ℕ) → seen ≡ found → n ≡ length found → at < n
    → slice_get found at ≡ Some (get_or seen at 0)
found-read found seen n at e size l = slice_get-get_or found at 0 (omega arith)
    ∙ ap (λ xs. Some (get_or xs at 0)) (sym e)
