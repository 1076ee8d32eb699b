use Rattle.std.proofs.Common.{◌≡◌, ◌+◌, ◌<◌, ◌≤◌, ℕ, get_or, length, map, take, sym, ap, ◌∙◌, arith}
use Rattle.std.proofs.lemmas.List.{take_all}
use Rattle.kn_trees.specs.Formulas.{formula_nodes, total}
use Rattle.kn_rows.proofs.FormulaFolds.{formula_nodes-Who, IsGate-All, IsGate-Any, IsGate-Threshold, total-part}
use Rattle.kn_rows.proofs.FormulaFolds.{total-more}
use Rattle.kn_rows.proofs.node_count.+nodes.Goals.{nodes_of_parts-After-part-item}
use Rattle.kn_rows.proofs.node_count.+nodes.Goals as goal

pub nodes_of_formula-nodes_of_parts-requires : goal.nodes_of_formula-nodes_of_parts-requires
nodes_of_formula-nodes_of_parts-requires t c =
    let nodes = ap formula_nodes c.in-All.is ∙ (IsGate-All c.in-All.parts).nodes in
    (omega (arith, nodes, c.decreases), omega (arith, nodes, c.requires))

pub nodes_of_formula-overflow_add-result : goal.nodes_of_formula-overflow_add-result
nodes_of_formula-overflow_add-result t c =
    let nodes = ap formula_nodes c.in-All.is ∙ (IsGate-All c.in-All.parts).nodes in
    omega (arith, nodes, c.requires, c.nodes_of_parts.ensures)

pub nodes_of_formula-nodes_of_parts-requires-in-Any : goal.nodes_of_formula-nodes_of_parts-requires-in-Any
nodes_of_formula-nodes_of_parts-requires-in-Any t c =
    let nodes = ap formula_nodes c.in-Any.is ∙ (IsGate-Any c.in-Any.parts).nodes in
    (omega (arith, nodes, c.decreases), omega (arith, nodes, c.requires))

pub nodes_of_formula-overflow_add-result-in-Any : goal.nodes_of_formula-overflow_add-result-in-Any
nodes_of_formula-overflow_add-result-in-Any t c =
    let nodes = ap formula_nodes c.in-Any.is ∙ (IsGate-Any c.in-Any.parts).nodes in
    omega (arith, nodes, c.requires, c.nodes_of_parts-in-Any.ensures)

pub nodes_of_formula-nodes_of_parts-requires-in-Threshold : goal.nodes_of_formula-nodes_of_parts-requires-in-Threshold
nodes_of_formula-nodes_of_parts-requires-in-Threshold t c =
    let nodes = ap formula_nodes c.in-Threshold.is ∙ (IsGate-Threshold _ c.in-Threshold.list).nodes in
    (omega (arith, nodes, c.decreases), omega (arith, nodes, c.requires))

pub nodes_of_formula-overflow_add-result-in-Threshold : goal.nodes_of_formula-overflow_add-result-in-Threshold
nodes_of_formula-overflow_add-result-in-Threshold t c =
    let nodes = ap formula_nodes c.in-Threshold.is ∙ (IsGate-Threshold _ c.in-Threshold.list).nodes in
    omega (arith, nodes, c.requires, c.nodes_of_parts-in-Threshold.ensures)

pub nodes_of_formula-returns-in-Who : goal.nodes_of_formula-returns-in-Who
nodes_of_formula-returns-in-Who t c = sym (ap formula_nodes c.in-Who.is ∙ formula_nodes-Who _)

pub nodes_of_formula-returns-in-All : goal.nodes_of_formula-returns-in-All
nodes_of_formula-returns-in-All t c =
    let nodes = ap formula_nodes c.in-All.is ∙ (IsGate-All c.in-All.parts).nodes in
    omega (arith, nodes, c.nodes_of_parts.ensures)

pub nodes_of_formula-returns-in-Any : goal.nodes_of_formula-returns-in-Any
nodes_of_formula-returns-in-Any t c =
    let nodes = ap formula_nodes c.in-Any.is ∙ (IsGate-Any c.in-Any.parts).nodes in
    omega (arith, nodes, c.nodes_of_parts-in-Any.ensures)

pub nodes_of_formula-returns-in-Threshold : goal.nodes_of_formula-returns-in-Threshold
nodes_of_formula-returns-in-Threshold t c =
    let nodes = ap formula_nodes c.in-Threshold.is ∙ (IsGate-Threshold _ c.in-Threshold.list).nodes in
    omega (arith, nodes, c.nodes_of_parts-in-Threshold.ensures)

-- the part at hand is the next one
within : (t : ℕ) (c : nodes_of_parts-After-part-item t) → c.loop-part.part-index < length c.args.parts.now
within t c = omega (arith, ap length c.as_slice-part-items.ensures)

next_part : (t : ℕ) (c : nodes_of_parts-After-part-item t)
    → c.part-item.result ≡ get_or c.args.parts.now c.loop-part.part-index c.part-item.result
next_part t c = c.part-item.is
    ∙ ap (λ ps. get_or ps c.loop-part.part-index c.part-item.result) c.as_slice-part-items.ensures

-- it has no more nodes than all of them, with those before it
few : (t : ℕ) (c : nodes_of_parts-After-part-item t)
    → total (map formula_nodes (take c.loop-part.part-index c.args.parts.now)) + formula_nodes c.part-item.result
    ≤ total (map formula_nodes c.args.parts.now)
few t c = total-part c.args.parts.now c.loop-part.part-index c.part-item.result (within t c) (next_part t c)

pub nodes_of_parts-nodes_of_formula-nodes-requires : goal.nodes_of_parts-nodes_of_formula-nodes-requires
nodes_of_parts-nodes_of_formula-nodes-requires t c =
    (omega (arith, few t c, c.decreases), omega (arith, few t c, c.requires))

pub nodes_of_parts-overflow_add-nodes : goal.nodes_of_parts-overflow_add-nodes
nodes_of_parts-overflow_add-nodes t c =
    let here = (goal.at.nodes_of_parts-overflow_add-nodes t c).After-part-item in
    omega (arith, few t here, c.requires, c.nodes_of_formula-nodes.ensures, c.loop-part.invariant)

pub nodes_of_parts-loop-part-preserved : goal.nodes_of_parts-loop-part-preserved
nodes_of_parts-loop-part-preserved t c =
    let here = (goal.at.nodes_of_parts-loop-part-preserved t c).After-part-item in
    omega (
      arith,
      total-more c.args.parts.now c.loop-part.part-index c.part-item.result (within t here) (next_part t here),
      c.nodes_of_formula-nodes.ensures,
      c.loop-part.invariant,
    )

pub nodes_of_parts-returns : goal.nodes_of_parts-returns
nodes_of_parts-returns t c =
    c.loop-part.invariant
    ∙ ap (λ ps. total (map formula_nodes ps))
    (take_all c.loop-part.part-index c.args.parts.now (omega (arith, ap length c.as_slice-part-items.ensures)))
