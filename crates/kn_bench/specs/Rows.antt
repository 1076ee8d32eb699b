-- Rows that a system over so many principals takes.
use Rattle.std.specs.Prelude.{ℕ, ◌+◌, ◌<◌, ◌≤◌, length}
use Rattle.kn_bench.specs.declared.stated.Stated.{Stated}
use Rattle.kn_system.specs.Forms.{IsFormula}

-- a short formula over the policy and so many others, and four levels
pub record IsStated (others : ℕ) (row : Stated) : Type 0 where
  pub authorizer : row.authorizer < others + 1
  pub ceiling : row.ceiling < 4
  pub formula : IsFormula (others + 1) row.formula
  pub short : length row.formula ≤ 6
