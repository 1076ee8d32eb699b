-- Texts in the order of their bytes.
use Rattle.std.proofs.Common.{◌≡◌, ℕ, Bool, List, refl, arith}
use Rattle.std.specs.Ordering.{nat_cmp, is_lt, is_some_and}
use Rattle.std.specs.Cmp.Lexicographic.{slice_partial_cmp}
use Rattle.std.specs.Prelude.{Some}
use Rattle.std.proofs.lemmas.Bool.Decides.{nat_tests}
use Rattle.std.proofs.lemmas.Cmp.{same_from_slice_cmp_tested}
use Rattle.kn_cond.specs.Meaning.{is_before}

pub before_by : (xs ys : List ℕ) (told : Bool)
    → told ≡ is_some_and is_lt (slice_partial_cmp (λ x y. Some (nat_cmp x y)) xs ys) → told ≡ is_before xs ys
before_by = same_from_slice_cmp_tested nat_cmp is_lt is_before refl (λ _ _. refl) (λ _ _. refl)
    (λ x y xs ys o h. grind (arith, nat_tests))
