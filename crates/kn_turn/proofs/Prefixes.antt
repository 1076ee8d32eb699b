-- Beginnings of one list, and the longer of two.
use Rattle.std.proofs.Common.{◌≡◌, ◌≤◌, max, nat_lt, Bool, true, false, List, [], ◌∷◌, ◌++◌, length, refl, ap, sym, ◌∙◌}
use Rattle.std.proofs.Common.{arith, append_assoc, append-nil}
use Rattle.std.proofs.lemmas.Bool.Decides.{nat_tests}
use mathlib.Core.List.{IsPrefix}
use Rattle.kn_turn.specs.Entries.{longer, longer_if}

module _ {A : Type 0} where
  pub prefix_self : (xs : List A) → IsPrefix xs xs
  prefix_self xs = ([], append-nil xs)

  pub prefix_same : (xs ys : List A) → xs ≡ ys → IsPrefix xs ys
  prefix_same xs ys e = ([], append-nil xs ∙ e)

  pub prefix_more : (xs ys more : List A) → IsPrefix xs ys → IsPrefix xs (ys ++ more)
  prefix_more xs ys more p = (p.0 ++ more, sym (append_assoc xs p.0 more) ∙ ap (λ w. w ++ more) p.1)

  pub prefix_trans : (xs ys zs : List A) → IsPrefix xs ys → IsPrefix ys zs → IsPrefix xs zs
  prefix_trans xs ys zs p q = (p.0 ++ q.0, sym (append_assoc xs p.0 q.0) ∙ (ap (λ w. w ++ q.0) p.1 ∙ q.1))

  -- of two beginnings of one list the shorter begins the longer
  pub prefix_shorter : (xs ys zs : List A) → IsPrefix xs zs → IsPrefix ys zs → length xs ≤ length ys → IsPrefix xs ys
  prefix_shorter [] ys zs p q le = (ys, refl)
  prefix_shorter (x ∷ xs) [] zs p q le = absurd (omega arith)
  prefix_shorter (x ∷ xs) (y ∷ ys) [] p q le = absurd (cc (p.1))
  prefix_shorter (x ∷ xs) (y ∷ ys) (z ∷ zs) p q le =
      let heads : x ≡ y = cc (p.1, q.1) in
      let rest = prefix_shorter xs ys zs (p.0, cc (p.1)) (q.0, cc (q.1)) (omega arith) in
      (rest.0, cc (heads, rest.1))

  longer_by : (b : Bool) (xs ys zs : List A) → nat_lt (length xs) (length ys) ≡ b → IsPrefix xs zs → IsPrefix ys zs
      → IsPrefix xs (longer_if b xs ys) × IsPrefix ys (longer_if b xs ys) × IsPrefix (longer_if b xs ys) zs
  longer_by true xs ys zs is p q = (prefix_shorter xs ys zs p q (grind (arith, nat_tests)), prefix_self ys, q)
  longer_by false xs ys zs is p q = (prefix_self xs, prefix_shorter ys xs zs q p (grind (arith, nat_tests)), p)

  -- both begin the longer one, which begins what both begin
  pub longer_between : (xs ys zs : List A) → IsPrefix xs zs → IsPrefix ys zs → IsPrefix xs (longer xs ys)
      × IsPrefix ys (longer xs ys) × IsPrefix (longer xs ys) zs
  longer_between xs ys zs p q = longer_by (nat_lt (length xs) (length ys)) xs ys zs refl p q

  longer_nil_by : (b : Bool) (xs : List A) → nat_lt (length xs) 0 ≡ b → longer_if b xs [] ≡ xs
  longer_nil_by true xs is = absurd (grind (arith, nat_tests))
  longer_nil_by false xs is = refl

  pub longer-nil : (xs ys : List A) → ys ≡ [] → longer xs ys ≡ xs
  longer-nil xs ys e = ap (longer xs) e ∙ longer_nil_by (nat_lt (length xs) 0) xs refl

  length_by : (b : Bool) (xs ys : List A) → nat_lt (length xs) (length ys) ≡ b
      → length (longer_if b xs ys) ≡ max (length xs) (length ys)
  length_by true xs ys is = grind (arith, nat_tests)
  length_by false xs ys is = grind (arith, nat_tests)

  pub length-longer : (xs ys : List A) → length (longer xs ys) ≡ max (length xs) (length ys)
  length-longer xs ys = length_by (nat_lt (length xs) (length ys)) xs ys refl
