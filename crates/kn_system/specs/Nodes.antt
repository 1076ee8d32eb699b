-- The nodes of a system's formulas in one list, what each is a part of, and where each principal stands (keynoted's
-- own).
use Rattle.std.specs.Prelude.{ℕ, zero, suc, ◌==◌, List, [], ◌∷◌, ◌++◌, length, replicate, slice_get, Option, None}
use Rattle.std.specs.Prelude.{if◌then◌else◌}
use Rattle.kn_system.specs.declared.nodes.NodeSort.{NodeSort}
use Rattle.kn_system.specs.declared.nodes.NodeSort.TheVariants.{Leaf, Gate as GateNode}
use Rattle.kn_system.specs.declared.nodes.Up.{Up}
use Rattle.kn_system.specs.declared.nodes.Up.TheVariants.{Node, Row}
use Rattle.kn_system.specs.declared.rows.Piece.{Piece}
use Rattle.kn_system.specs.declared.rows.Piece.TheVariants.{Who, Gate}
use Rattle.kn_system.specs.Rows.{SystemRow}

-- the pieces of all formulas, one after another
abbrev pub pieces_of : List SystemRow → List Piece
pieces_of [] = []
pieces_of (row ∷ rows) = row.formula ++ pieces_of rows

-- the sort of the node that a piece stands for
abbrev pub sort_of : Piece → NodeSort
sort_of (Who p) = Leaf p
sort_of (Gate k n) = GateNode k n

-- how many parts a node has
abbrev pub parts_of : Piece → ℕ
parts_of (Who p) = 0
parts_of (Gate k n) = n

-- what the nodes from i on are parts of, where the formulas that they spell, one after another, are parts of these
abbrev pub ups_of : ℕ → List Up → List Piece → List Up
ups_of i us [] = []
ups_of i [] (p ∷ ps) = []
ups_of i (u ∷ us) (Who p ∷ ps) = u ∷ ups_of (suc i) us ps
ups_of i (u ∷ us) (Gate k n ∷ ps) = u ∷ ups_of (suc i) (replicate n (Node i) ++ us) ps

-- n rows from r on
abbrev pub row_ups : ℕ → ℕ → List Up
row_ups r zero = []
row_ups r (suc n) = Row r ∷ row_ups (suc r) n

-- what each node of the rows' formulas is a part of: the row itself, or a gate
abbrev pub ups_of_rows : List SystemRow → List Up
ups_of_rows rows = ups_of 0 (row_ups 0 (length rows)) (pieces_of rows)

-- the nodes from i on that are this principal
abbrev pub uses_from : ℕ → ℕ → List Piece → List ℕ
uses_from p i [] = []
uses_from p i (Who q ∷ ps) = if q == p then i ∷ uses_from p (suc i) ps else uses_from p (suc i) ps
uses_from p i (Gate k n ∷ ps) = uses_from p (suc i) ps

-- all nodes that are this principal, in order
abbrev pub uses_of : ℕ → List Piece → List ℕ
uses_of p ps = uses_from p 0 ps

-- the use before the k-th one, counted from 0, and none before the first
abbrev pub use_before_at : List ℕ → ℕ → Option ℕ
use_before_at uses zero = None
use_before_at uses (suc k) = slice_get uses k

-- formulas in one list
pub record FlatNodes : Type 0 where
  pub pieces : List Piece
  pub ups : List Up
