-- A query over numbered principals: what a system is seen as (keynoted's own).
use Rattle.std.specs.Prelude.{ℕ, ◌≡◌, ◌+◌, ◌<◌, ◌≤◌, ◌^◌, Bool, true, false, List, [], ◌∷◌, All, length, slice_index_or}
use Rattle.std.specs.Prelude.{slice_set}
use Rattle.kn_base.specs.declared.limits.TheConstants.{FEWEST_COMPLIANCE_VALUES, MOST_COMPLIANCE_VALUES}
use Rattle.kn_system.specs.Rows.{SystemRow}
use Rattle.kn_system.specs.Form.{leaf_count}
use Rattle.kn_system.specs.Forms.{IsFormula}

-- how many levels there are, which principals are requesters, by number, and the rows
pub record SystemEquations : Type 0 where
  pub levels : ℕ
  pub requesters : List Bool
  pub rows : List SystemRow

-- a row by its number
abbrev pub row_at : List SystemRow → ℕ → SystemRow
row_at rows i = slice_index_or rows i (record { authorizer = 0; ceiling = 0; formula = [] })

-- the rows, where this one has another ceiling
abbrev pub with_row_ceiling : List SystemRow → ℕ → ℕ → List SystemRow
with_row_ceiling rows i ceiling =
    slice_set rows i
    (record { authorizer = (row_at rows i).authorizer; ceiling = ceiling; formula = (row_at rows i).formula })

-- a row's numbers are in range, and its formula is one over the principals
pub record IsSystemRow (levels principals : ℕ) (row : SystemRow) : Type 0 where
  pub authorizer : row.authorizer < principals
  pub ceiling : row.ceiling < levels
  pub formula : IsFormula principals row.formula

-- the row is one over the first of the principals
pub record IsRowOver (principals : ℕ) (row : SystemRow) : Type 0 where
  pub authorizer : row.authorizer < principals
  pub formula : IsFormula principals row.formula

-- how many nodes the formulas have together, principals and gates
abbrev pub node_total : List SystemRow → ℕ
node_total [] = 0
node_total (row ∷ rows) = length row.formula + node_total rows

-- how many principals stand in the formulas together
abbrev pub leaf_total : List SystemRow → ℕ
leaf_total [] = 0
leaf_total (row ∷ rows) = leaf_count row.formula + leaf_total rows

-- Levels, principals and formulas are within their limits, the policy, principal 0, is no requester, and each row is
-- one.
pub record IsSystem (s : SystemEquations) : Type 0 where
  pub levels_fit : (FEWEST_COMPLIANCE_VALUES ≤ s.levels) × (s.levels ≤ MOST_COMPLIANCE_VALUES)
  pub principals_fit : (1 ≤ length s.requesters) × (length s.requesters ≤ 2 ^ 24)
  pub policy : slice_index_or s.requesters 0 true ≡ false
  pub nodes_fit : node_total s.rows < 2 ^ 24
  pub rows_fit : All (IsSystemRow s.levels (length s.requesters)) s.rows
