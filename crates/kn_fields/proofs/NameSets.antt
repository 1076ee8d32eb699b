-- The names among tokens, as a set that grows with them.
use Rattle.std.proofs.Common.{◌≡◌, ℕ, true, List, [], ◌∷◌, ◌++◌, arith}
use Rattle.std.specs.Borrow.{Bor}
use Rattle.std.specs.BTreeSet.{BTreeSet, UpdatesBy}
use Rattle.std.specs.Cmp.Lexicographic.{slice_cmp}
use Rattle.std.specs.Ordering.{nat_cmp}
use Rattle.std.proofs.lemmas.List.Folds.{list_any-append}
use Rattle.std.proofs.lemmas.Map.Text.{is_eq-slice_cmp}
use Rattle.kn_lex.specs.Cutting.{TokenView}
use Rattle.kn_fields.specs.Constants.{is_name_sort}
use Rattle.kn_fields.specs.Expectations.{AreNames}

-- a name is added
pub names_more : (key : Bor (List ℕ)) (old new : BTreeSet (Bor (List ℕ))) (before : List TokenView) (token : TokenView)
    → UpdatesBy (λ x y. slice_cmp nat_cmp x.now y.now) (λ k. slice_cmp nat_cmp key.now k.now) old new true
    → is_name_sort token.sort ≡ true → token.text ≡ key.now → AreNames old before → AreNames new (before ++ token ∷ [])
names_more key old new before token updates sort text are = λ name.
    let query : Bor (List ℕ) = record { ref_ptr = (0, 0); now = name } in
    grind (arith, list_any-append, are name, updates.0 query, is_eq-slice_cmp key.now name)
