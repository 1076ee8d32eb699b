-- Laws of systems that stand for queries.
use Rattle.std.specs.Prelude.{ℕ, ◌↔◌, List}
use Rattle.kn_proof.specs.declared.named.NamedRow.{NamedRow}
use Rattle.kn_proof.specs.declared.row.Row.{Row}
use Rattle.kn_meaning.specs.Equations.{Equations}
use Rattle.kn_meaning.specs.Proofs as named
use Rattle.kn_system.specs.Proofs.{IsProof}
use Rattle.kn_rows.specs.Numbering.{AreDistinct}
use Rattle.kn_answer.specs.Built.{Interned, IsBuilt}
use Rattle.kn_answer.specs.Located.{AreLocated}

-- where the ids differ, located rows prove a level in the system of a query exactly where the rows by names prove it of
-- the query
abbrev pub LocatedProofs : Type 0
LocatedProofs =
    (e : Equations) (built : Interned) → IsBuilt e built → AreDistinct built.ids
    → (rows : List NamedRow) (located : List Row) → AreLocated built rows located
    → (level : ℕ) → IsProof built.system located level ↔ named.IsProof e rows level
