-- Which principals a change may affect, and how many steps they cost (keynoted's own).
use Rattle.std.specs.Prelude.{ℕ, suc, ◌+◌, ◌-◌, ◌*◌, ◌≡◌, ◌<◌, Bool, true, false, Some, List, [], ◌∷◌, length}
use Rattle.std.specs.Prelude.{slice_get, slice_index_or, if◌then◌else◌}
use Rattle.kn_system.specs.declared.rows.Piece.TheVariants.{Who}
use Rattle.kn_system.specs.Equations.{SystemEquations, row_at}
use Rattle.kn_system.specs.Nodes.{pieces_of, uses_of}
use Rattle.kn_system.specs.Rows.{SystemRow}
use Rattle.kn_watch.specs.declared.changed.Changed.{Changed}

-- whether a principal is affected, where each has a flag
abbrev pub is_affected : List Bool → ℕ → Bool
is_affected affected p = slice_index_or affected p false

-- the row uses the principal: it stands in the formula
abbrev pub UsesPrincipal : SystemRow → ℕ → Type 0
UsesPrincipal row p = (i : ℕ) × (slice_get row.formula i ≡ Some (Who p))

-- the authorizers of the changed rows are affected
abbrev pub HasChanged : SystemEquations → List Changed → List Bool → Type 0
HasChanged s changed affected = (i : ℕ) (change : Changed) → slice_get changed i ≡ Some change
    → is_affected affected (row_at s.rows change.row).authorizer ≡ true

-- and, with a principal, the authorizers of all rows that use it
abbrev pub HasUsers : SystemEquations → List Bool → Type 0
HasUsers s affected =
    (p r : ℕ) → is_affected affected p ≡ true → r < length s.rows → UsesPrincipal (row_at s.rows r) p
    → is_affected affected (row_at s.rows r).authorizer ≡ true

-- who is among the first is among the second
abbrev pub IsSubset : List Bool → List Bool → Type 0
IsSubset affected others = (p : ℕ) → is_affected affected p ≡ true → is_affected others p ≡ true

-- the affected principals: the least set that has both
pub record AreAffected (s : SystemEquations) (changed : List Changed) (affected : List Bool) : Type 0 where
  pub size : length affected ≡ length s.requesters
  pub changed_rows : HasChanged s changed affected
  pub users : HasUsers s affected
  pub least : (others : List Bool) → HasChanged s changed others → HasUsers s others → IsSubset affected others

-- the sum over those who are affected, from principal p on
abbrev pub sum_over : (ℕ → ℕ) → ℕ → List Bool → ℕ
sum_over f p [] = 0
sum_over f p (flag ∷ flags) = (if flag then f p else 0) + sum_over f (suc p) flags

-- how many are affected
abbrev pub affected_principals : List Bool → ℕ
affected_principals affected = sum_over (λ _. 1) 0 affected

-- how many uses a principal has
abbrev pub use_count : SystemEquations → ℕ → ℕ
use_count s p = length (uses_of p (pieces_of s.rows))

-- how many uses they have together
abbrev pub affected_uses : SystemEquations → List Bool → ℕ
affected_uses s affected = sum_over (use_count s) 0 affected

-- how many nodes the rows have whose authorizer is affected
abbrev pub affected_nodes : List Bool → List SystemRow → ℕ
affected_nodes affected [] = 0
affected_nodes affected (row ∷ rows) = (if is_affected affected row.authorizer then length row.formula else 0)
    + affected_nodes affected rows

-- The most steps of a refresh. To find the affected principals: each use, with the nodes above it, and the end of each
-- principal's uses. To raise them: each node, as often as they may rise together, and once more.
abbrev pub most_refresh_ticks : SystemEquations → List Bool → ℕ
most_refresh_ticks s affected =
    affected_uses s affected * (affected_nodes affected s.rows + 1) + affected_principals affected
    + affected_nodes affected s.rows * (affected_principals affected * (s.levels - 1) + 1)
