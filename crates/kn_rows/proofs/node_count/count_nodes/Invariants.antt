use Rattle.std.proofs.Common.{◌≡◌, take}
use Rattle.std.specs.Prelude.{sum_by}
use Rattle.kn_rows.proofs.NodeSums.{part_nodes}
use Rattle.kn_rows.proofs.node_count.count_nodes.Given as goal

abbrev pub invariant-loop-part : goal.invariant-loop-part
invariant-loop-part l = l.nodes ≡ sum_by part_nodes (take l.part-index l.list)
