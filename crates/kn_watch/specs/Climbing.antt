-- In which row, and at which place there, a node stands.
use Rattle.std.specs.Prelude.{ℕ, suc, ◌-◌, List, [], ◌∷◌, length, nat_lt, if◌then◌else◌}
use Rattle.kn_system.specs.Rows.{SystemRow}

-- the row of a node
abbrev pub row_of_node : List SystemRow → ℕ → ℕ
row_of_node [] i = 0
row_of_node (row ∷ rows) i =
    if nat_lt i (length row.formula) then 0 else suc (row_of_node rows (i - length row.formula))

-- its place in the formula
abbrev pub place_of_node : List SystemRow → ℕ → ℕ
place_of_node [] i = 0
place_of_node (row ∷ rows) i = if nat_lt i (length row.formula) then i else place_of_node rows (i - length row.formula)
