use Rattle.std.proofs.Common.{ℕ, ◌<◌, ◌≤◌, slice_index, take}
use Rattle.kn_system.specs.Counts.{IsWithin}
use Rattle.kn_system.specs.Equations.{node_total, row_at}
use Rattle.kn_check.specs.Rejects.{worth_at}
use Rattle.kn_check.proofs.rows.test_closed.Given as goal

abbrev pub invariant-loop-assertion : goal.invariant-loop-assertion
invariant-loop-assertion g l = record {
  closed : (j : ℕ) → j < l.assertion
      → worth_at l.system l.levels j ≤ slice_index l.levels (row_at l.system.rows j).authorizer;
  ticks : IsWithin (node_total (take l.assertion l.system.rows)) l.initial.steps l.steps;
}
