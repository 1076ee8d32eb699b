use Rattle.std.proofs.Common.{◌≡◌, ◌+◌, ◌*◌, map, take}
use Rattle.kn_trees.specs.Formulas.{formula_nodes, total}
use Rattle.kn_rows.proofs.node_count.+nodes.Given as goal

abbrev pub decreases-nodes_of_formula : goal.decreases-nodes_of_formula
decreases-nodes_of_formula l = 2 * formula_nodes l.formula.now

abbrev pub decreases-nodes_of_parts : goal.decreases-nodes_of_parts
decreases-nodes_of_parts l = 2 * total (map formula_nodes l.parts.now) + 1

abbrev pub invariant-nodes_of_parts-loop-part : goal.invariant-nodes_of_parts-loop-part
invariant-nodes_of_parts-loop-part l = l.nodes ≡ total (map formula_nodes (take l.part-index l.parts))
