use Rattle.std.proofs.Common.{◌+◌, ◌*◌, map, take}
use Rattle.kn_trees.specs.Formulas.{formula_nodes, total}
use Rattle.kn_rows.specs.Narrowing.{narrowed_formula}
use Rattle.kn_rows.specs.Spelling.{AddsSpelled}
use Rattle.kn_rows.proofs.numbered.Numbered.+narrowed_formula.Given as goal

abbrev pub decreases-add_narrowed_formula : goal.decreases-add_narrowed_formula
decreases-add_narrowed_formula l = 2 * formula_nodes l.formula.now

abbrev pub decreases-add_narrowed_gate : goal.decreases-add_narrowed_gate
decreases-add_narrowed_gate l = 2 * total (map formula_nodes l.parts.now) + 1

abbrev pub invariant-add_narrowed_gate-loop-part : goal.invariant-add_narrowed_gate-loop-part
invariant-add_narrowed_gate-loop-part l =
    AddsSpelled l.self.names (map (narrowed_formula l.self.names) (take l.part-index l.parts)) l.initial.pieces l.pieces
