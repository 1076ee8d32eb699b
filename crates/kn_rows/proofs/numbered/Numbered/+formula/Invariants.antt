use Rattle.std.proofs.Common.{◌+◌, ◌*◌, flat_map, map, take}
use Rattle.kn_trees.specs.Formulas.{formula_nodes, total}
use Rattle.kn_meaning.specs.Occurring.{formula_names}
use Rattle.kn_rows.specs.Extending.{Extends}
use Rattle.kn_rows.specs.Spelling.{AddsSpelled}
use Rattle.kn_rows.proofs.numbered.Numbered.+formula.Given as goal

abbrev pub decreases-add_formula : goal.decreases-add_formula
decreases-add_formula l = 2 * formula_nodes l.formula.now

abbrev pub decreases-add_gate : goal.decreases-add_gate
decreases-add_gate l = 2 * total (map formula_nodes l.parts.now) + 1

abbrev pub invariant-add_gate-loop-part : goal.invariant-add_gate-loop-part
invariant-add_gate-loop-part l = record {
  grown : Extends (total (map formula_nodes (take l.part-index l.parts)))
      (flat_map formula_names (take l.part-index l.parts)) l.initial.self l.self;
  spelled : AddsSpelled l.self.names (take l.part-index l.parts) l.initial.pieces l.pieces;
}
