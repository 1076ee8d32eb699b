use Rattle.std.proofs.Common.{◌≡◌, ◌+◌, ◌*◌, ◌≤◌, [], length}
use Rattle.kn_system.specs.Equations.{node_total}
use Rattle.kn_bench.proofs.stated.build.Given as goal

abbrev pub invariant-loop-before : goal.invariant-loop-before
invariant-loop-before l = record {
  levels : l.system.levels ≡ 4;
  principals : length l.system.requesters ≡ l.before + 1;
  rows : l.system.rows ≡ [];
}

abbrev pub invariant-loop-row : goal.invariant-loop-row
invariant-loop-row l = record {
  levels : l.system.levels ≡ 4;
  principals : length l.system.requesters ≡ l.size + 1;
  nodes : node_total l.system.rows ≤ 6 * l.row-index;
}
