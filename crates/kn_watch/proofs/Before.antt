-- The rows before the change: they have the same authorizers and formulas, and those that didn't change are the same.
use Rattle.std.proofs.Common.{◌≡◌, ◌≢◌, ℕ, suc, zero, List, [], ◌∷◌, Some, length, slice_get, slice_set, refl, ◌∙◌}
use Rattle.std.proofs.lemmas.List.{get_or-set_other, length-set}
use Rattle.kn_system.specs.Equations.{row_at}
use Rattle.kn_system.specs.Rows.{SystemRow}
use Rattle.kn_watch.specs.declared.changed.Changed.{Changed}
use Rattle.kn_watch.specs.Changes.{put_back, row_before}

-- two rows differ in their ceilings at most
pub record IsSameButCeiling (row other : SystemRow) : Type 0 where
  pub authorizer : other.authorizer ≡ row.authorizer
  pub formula : other.formula ≡ row.formula

set-same : (rows : List SystemRow) (j i : ℕ) (row : SystemRow) → IsSameButCeiling (row_at rows j) row
    → IsSameButCeiling (row_at rows i) (row_at (slice_set rows j row) i)
set-same [] j i row h = record { authorizer = refl; formula = refl }
set-same (r ∷ rows) zero zero row h = h
set-same (r ∷ rows) zero (suc i) row h = record { authorizer = refl; formula = refl }
set-same (r ∷ rows) (suc j) zero row h = record { authorizer = refl; formula = refl }
set-same (r ∷ rows) (suc j) (suc i) row h = set-same rows j i row h

pub put_back-same : (changed : List Changed) (rows : List SystemRow) (i : ℕ)
    → IsSameButCeiling (row_at rows i) (row_at (put_back changed rows) i)
put_back-same [] rows i = record { authorizer = refl; formula = refl }
put_back-same (change ∷ changed) rows i =
    let one : IsSameButCeiling (row_at rows i) (row_at (slice_set rows change.row (row_before rows change)) i) =
    set-same rows change.row i (row_before rows change) (record { authorizer = refl; formula = refl }) in
    let rest = put_back-same changed (slice_set rows change.row (row_before rows change)) i in
    record { authorizer = rest.authorizer ∙ one.authorizer; formula = rest.formula ∙ one.formula }

pub put_back-other : (changed : List Changed) (rows : List SystemRow) (i : ℕ)
    → ((k : ℕ) (change : Changed) → slice_get changed k ≡ Some change → i ≢ change.row)
    → row_at (put_back changed rows) i ≡ row_at rows i
put_back-other [] rows i h = refl
put_back-other (change ∷ changed) rows i h =
    put_back-other changed (slice_set rows change.row (row_before rows change)) i (λ k. h (suc k))
    ∙ get_or-set_other rows change.row i (row_before rows change) (record { authorizer = 0; ceiling = 0; formula = [] })
    (h 0 change refl)

pub length-put_back : (changed : List Changed) (rows : List SystemRow) → length (put_back changed rows) ≡ length rows
length-put_back [] rows = refl
length-put_back (change ∷ changed) rows = length-put_back changed (slice_set rows change.row (row_before rows change))
    ∙ length-set rows change.row (row_before rows change)
