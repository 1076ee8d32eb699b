use Rattle.std.proofs.Common.{◌≡◌, ◌+◌, ◌<◌, ◌^◌, length, take, ap, ◌∙◌, arith}
use Rattle.std.specs.Prelude.{sum_by}
use Rattle.std.proofs.lemmas.List.{take_all}
use Rattle.kn_meaning.specs.Critical.{licensees_nodes}
use Rattle.kn_rows.proofs.NodeSums.{equation-nodes, nodes-few, nodes-next, part_nodes}
use Rattle.kn_rows.proofs.node_count.count_nodes.Goals.{After-part}
use Rattle.kn_rows.proofs.node_count.count_nodes.Goals as goal

-- the nodes with those of the assertion at hand
next : (c : After-part)
    → sum_by part_nodes (take (c.loop-part.part-index + 1) c.args.list.now)
    ≡ sum_by part_nodes (take c.loop-part.part-index c.args.list.now)
    + licensees_nodes c.part.inside.assertion.now.licensees
next c =
    nodes-next c.args.list.now c.as_slice-part-items.result.now c.as_slice-part-items.ensures c.loop-part.part-index
    c.part-item.result c.loop-part-test.true c.part-item.is _ (ap part_nodes c.part.view_is)

few : (c : After-part) → sum_by part_nodes (take (c.loop-part.part-index + 1) c.args.list.now) < 2 ^ 24
few c =
    nodes-few c.readings_are_computed.ensures.reading c.readings_are_sound.ensures c.args.list.now c.requires
    (c.loop-part.part-index + 1)

pub nodes_of_licensees-nodes-requires : goal.nodes_of_licensees-nodes-requires
nodes_of_licensees-nodes-requires c = omega (arith, next c, few c)

pub overflow_add-nodes : goal.overflow_add-nodes
overflow_add-nodes c =
    let here = (goal.at.overflow_add-nodes c).After-part in
    omega (arith, next here, few here, c.loop-part.invariant, c.nodes_of_licensees-nodes.ensures)

pub loop-part-preserved : goal.loop-part-preserved
loop-part-preserved c =
    let here = (goal.at.loop-part-preserved c).After-part in
    omega (arith, next here, c.loop-part.invariant, c.nodes_of_licensees-nodes.ensures)

pub returns : goal.returns
returns c = λ asked.
    c.loop-part.invariant
    ∙ ap (sum_by part_nodes)
    (take_all c.loop-part.part-index c.args.list.now (omega (arith, ap length c.as_slice-part-items.ensures)))
    ∙ equation-nodes asked c.args.list.now
