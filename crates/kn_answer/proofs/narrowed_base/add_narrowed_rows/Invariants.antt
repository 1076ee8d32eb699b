use Rattle.std.proofs.Common.{◌≡◌, ◌+◌, ◌++◌, ◌≤◌, List, length, map, replicate, take, true}
use Rattle.kn_meaning.specs.Equations.{Part}
use Rattle.kn_system.specs.Equations.{node_total}
use Rattle.kn_rows.specs.BaseRows.{IsBaseOf}
use Rattle.kn_rows.specs.Sizes.{total_size}
use Rattle.kn_answer.specs.Narrowed.{narrowed_part}
use Rattle.kn_answer.proofs.narrowed_base.add_narrowed_rows.Given as goal

abbrev pub invariant-loop-part : goal.invariant-loop-part
invariant-loop-part l = record {
  base : (parts : List Part) → IsBaseOf parts l.initial.numbered.names l.initial.numbered.system
      → IsBaseOf (parts ++ map (narrowed_part l.initial.numbered.names) (take l.part-index l.list)) l.numbered.names
      l.numbered.system;
  names : l.numbered.names ≡ l.initial.numbered.names;
  requesters : l.numbered.system.requesters ≡ l.initial.numbered.system.requesters;
  levels : l.numbered.system.levels ≡ l.initial.numbered.system.levels;
  nodes : node_total l.numbered.system.rows
      ≤ node_total l.initial.numbered.system.rows + total_size (take l.part-index l.list);
  rows : length l.numbered.system.rows ≡ length l.initial.numbered.system.rows + l.part-index;
  live : l.live ≡ l.initial.live ++ replicate l.part-index true;
}
