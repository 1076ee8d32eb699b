use Rattle.std.proofs.Common.{ℕ, ◌<◌}
use Rattle.kn_rows.specs.Numbering.{IsNumber}
use Rattle.kn_answer.proofs.built.Built.find_id.Given as goal

abbrev pub invariant-loop-row : goal.invariant-loop-row
invariant-loop-row l = (p : ℕ) → p < l.row → IsNumber l.self.ids l.id p → ⊥
