use Rattle.std.proofs.Common.{◌≡◌, ◌+◌, ◌≤◌, length, replicate, take, true}
use Rattle.kn_system.specs.Equations.{node_total}
use Rattle.kn_rows.specs.BaseRows.{IsBaseOf}
use Rattle.kn_rows.specs.Sizes.{total_size}
use Rattle.kn_answer.proofs.base.Base.of.Given as goal

abbrev pub invariant-loop-part : goal.invariant-loop-part
invariant-loop-part l = record {
  base : IsBaseOf (take l.part-index l.list) l.base.names l.base.system;
  live : l.base.live ≡ replicate l.part-index true;
  names : length l.base.names ≤ 1 + total_size (take l.part-index l.list);
  nodes : node_total l.base.system.rows ≤ total_size (take l.part-index l.list);
  small : node_total l.base.system.rows ≤ l.most_nodes;
}
