-- A system with the names of its principals and the ids of its rows, and when it is that of a query (keynoted's own).
use Rattle.std.specs.Prelude.{ℕ, ◌≡◌, List, map}
use Rattle.kn_proof.specs.declared.named.Id.{Id}
use Rattle.kn_meaning.specs.Equations.{Equations}
use Rattle.kn_meaning.specs.Occurring.{occurring}
use Rattle.kn_system.specs.Equations.{SystemEquations, IsSystem}
use Rattle.kn_rows.specs.Numbering.{AreNamesOf, IsSystemOf}

-- the names of the principals and the ids of the rows, each at its number
pub record Interned : Type 0 where
  pub names : List (List ℕ)
  pub system : SystemEquations
  pub ids : List Id

-- The system is that of the query: its principals are those that occur in the query, and no others, and each row has
-- the id of its statement.
pub record IsBuilt (e : Equations) (built : Interned) : Type 0 where
  pub well_formed : IsSystem built.system
  pub of : IsSystemOf e built.names built.system
  pub principals : AreNamesOf (occurring e) built.names
  pub ids : built.ids ≡ map (λ s. s.id) e.statements
