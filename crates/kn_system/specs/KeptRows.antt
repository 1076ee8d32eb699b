-- How a system keeps its rows: their formulas stand in one list of nodes.
use Rattle.std.specs.Prelude.{ℕ, ◌+◌, ◌≡◌, ◌≤◌, List, [], ◌∷◌, All, length, map, take, drop}
use Rattle.kn_system.specs.declared.rows.Piece.{Piece}
use Rattle.kn_system.specs.declared.rows.StoredRow.{StoredRow}
use Rattle.kn_system.specs.Nodes.{FlatNodes, pieces_of, ups_of_rows}
use Rattle.kn_system.specs.Rows.{SystemRow}

-- the row that is kept with the nodes of all formulas
abbrev pub kept_row : List Piece → StoredRow → SystemRow
kept_row pieces row =
    record { authorizer = row.authorizer; ceiling = row.ceiling; formula = take row.size (drop row.start pieces) }

abbrev pub kept_rows : List Piece → List StoredRow → List SystemRow
kept_rows pieces rows = map (kept_row pieces) rows

-- each row begins at the place where the one before it ends, and the last one ends at this place
abbrev pub AreEndToEnd : ℕ → List StoredRow → ℕ → Type 0
AreEndToEnd start [] end = start ≡ end
AreEndToEnd start (row ∷ rows) end = (row.start ≡ start) × AreEndToEnd (start + row.size) rows end

-- the nodes are those of the rows' formulas, and what they are parts of
pub record AreKept (rows : List StoredRow) (flat : FlatNodes) : Type 0 where
  pub inside : All (λ (row : StoredRow). row.start + row.size ≤ length flat.pieces) rows
  pub end_to_end : AreEndToEnd 0 rows (length flat.pieces)
  pub pieces : pieces_of (kept_rows flat.pieces rows) ≡ flat.pieces
  pub ups : ups_of_rows (kept_rows flat.pieces rows) ≡ flat.ups
