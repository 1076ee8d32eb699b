use Rattle.std.proofs.Common.{◌≡◌, ◌+◌, ◌≤◌, ◌++◌, length, List, replicate, take, true}
use Rattle.kn_meaning.specs.Equations.{Part}
use Rattle.kn_system.specs.Equations.{node_total}
use Rattle.kn_rows.specs.BaseRows.{IsBaseOf}
use Rattle.kn_rows.specs.Sizes.{total_size}
use Rattle.kn_answer.specs.Based.{GoesOn}
use Rattle.kn_answer.proofs.base.Base.extend_all.Given as goal

abbrev pub invariant-loop-part : goal.invariant-loop-part
invariant-loop-part l = record {
  base : (parts : List Part) → IsBaseOf parts l.fn.self.names l.fn.self.system
      → IsBaseOf (parts ++ take l.part-index l.list) l.base.names l.base.system;
  live : l.base.live ≡ l.fn.self.live ++ replicate l.part-index true;
  names : length l.base.names ≤ length l.fn.self.names + total_size (take l.part-index l.list);
  nodes : node_total l.base.system.rows ≤ node_total l.fn.self.system.rows + total_size (take l.part-index l.list);
  goes_on : GoesOn l.fn.self l.base;
}
