-- What one assertion says over numbered principals. How a system keeps its rows is no matter of these (keynoted's own).
use Rattle.std.specs.Prelude.{ℕ, List}
use Rattle.kn_system.specs.declared.rows.Piece.{Piece}

-- its authorizer, by number, the highest level that it gives, and its formula
pub record SystemRow : Type 0 where
  pub authorizer : ℕ
  pub ceiling : ℕ
  pub formula : List Piece
