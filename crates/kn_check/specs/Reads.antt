-- How much of the formulas of a system a check reads.
use Rattle.std.specs.Prelude.{ℕ, ◌+◌, List, [], ◌∷◌, length}
use Rattle.kn_proof.specs.declared.row.Row.{Row as ProofRow}
use Rattle.kn_system.specs.Equations.{SystemEquations, row_at, node_total}

-- how many nodes the formulas have on which the rows of a proof stand
abbrev pub support_nodes : SystemEquations → List ProofRow → ℕ
support_nodes s [] = 0
support_nodes s (row ∷ rows) = length (row_at s.rows row.by).formula + support_nodes s rows

-- these, and once those of all rows of the system
abbrev pub nodes_read : SystemEquations → List ProofRow → ℕ
nodes_read s rows = support_nodes s rows + node_total s.rows
