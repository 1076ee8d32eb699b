-- Which pieces a formula over named principals is, where the principals have numbers.
use Rattle.std.specs.Prelude.{ℕ, ◌≡◌, ◌+◌, ◌≤◌, List, ◌∷◌, ◌++◌, length, map, flat_map}
use Rattle.kn_trees.specs.declared.formula.Formula.{Formula}
use Rattle.kn_trees.specs.Formulas.{total, formula_nodes, formula_depth}
use Rattle.kn_meaning.specs.Formulas.{Levels, formula_level}
use Rattle.kn_system.specs.declared.rows.Piece.{Piece}
use Rattle.kn_system.specs.declared.rows.Piece.TheVariants.{Gate}
use Rattle.kn_system.specs.Form.{form_levels}
use Rattle.kn_system.specs.Forms.{AreForms, form_depths}
use Rattle.kn_rows.specs.Numbering.{HaveLevels, ArePiecesOf, formula_pieces}

-- Whatever pieces stand behind them, these have the levels of these formulas wherever the principals have the same
-- levels, and they spell as many formulas, as deep and with as many nodes. They are those of the formulas.
pub record AreSpelled (names : List (List ℕ)) (formulas : List Formula) (pieces : List Piece) : Type 0 where
  pub pieces_of : ArePiecesOf names (flat_map formula_pieces formulas) pieces
  pub levels : (top : ℕ) (at : Levels) (levels : List ℕ) (rest : List Piece) → HaveLevels names at levels
      → form_levels top levels (pieces ++ rest) ≡ map (formula_level top at) formulas ++ form_levels top levels rest
  pub forms : (principals n : ℕ) (rest : List Piece) → length names ≤ principals → AreForms principals n rest
      → AreForms principals (length formulas + n) (pieces ++ rest)
  pub depths : (rest : List Piece) → form_depths (pieces ++ rest) ≡ map formula_depth formulas ++ form_depths rest
  pub nodes : length pieces ≡ total (map formula_nodes formulas)

-- pieces were added that spell these formulas
pub record AddsSpelled (names : List (List ℕ)) (formulas : List Formula) (old new : List Piece) : Type 0 where
  pub pieces : List Piece
  pub added : new ≡ old ++ pieces
  pub spelled : AreSpelled names formulas pieces

-- a gate was added, and behind it pieces that spell its parts
pub record AddsGate (names : List (List ℕ)) (need : ℕ) (parts : List Formula) (old new : List Piece) : Type 0 where
  pub pieces : List Piece
  pub added : new ≡ old ++ Gate need (length parts) ∷ pieces
  pub spelled : AreSpelled names parts pieces
