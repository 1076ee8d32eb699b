use Rattle.std.proofs.Common.{◌≡◌, ◌+◌, ◌^◌, ◌≤◌, [], flat_map, length, map, take, drop}
use Rattle.kn_system.specs.Equations.{node_total}
use Rattle.kn_rows.specs.Numbering.{IsSystemOf}
use Rattle.kn_meaning.specs.Equations.{equations_over, statement_of}
use Rattle.kn_meaning.specs.Occurring.{statement_names}
use Rattle.kn_rows.specs.Extending.{AddsNames}
use Rattle.kn_rows.specs.Sizes.{total_size}
use Rattle.kn_rows.proofs.numbered.Numbered.add_statements.Given as goal

abbrev pub invariant-loop-part : goal.invariant-loop-part
invariant-loop-part l = record {
  names_fit : length l.self.names + total_size (drop l.part-index l.list) ≤ 2 ^ 24;
  nodes_fit : node_total l.self.system.rows + total_size (drop l.part-index l.list) ≤ 2 ^ 24;
  one_each : length l.self.names ≡ length l.self.system.requesters;
  levels : l.self.system.levels ≡ l.initial.self.system.levels;
  system : IsSystemOf (equations_over l.query []) l.initial.self.names l.initial.self.system
      → IsSystemOf (equations_over l.query (take l.part-index l.list)) l.self.names l.self.system;
  principals : AddsNames (flat_map statement_names (map (statement_of l.query) (take l.part-index l.list)))
      l.initial.self.names l.self.names;
}
