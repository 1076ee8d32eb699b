-- A row of a proof.
use Rattle.std.specs.Prelude.{ℕ, List}
use Rattle.kn_proof.specs.declared.named.Id.{Id}
use Rattle.kn_proof.specs.declared.named.NamedRow.{NamedRow}

abbrev pub row : ℕ → Id → List ℕ → NamedRow
row value id principal = record { value = value; id = id; principal = principal }
