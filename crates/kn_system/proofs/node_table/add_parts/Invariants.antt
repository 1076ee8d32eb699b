use Rattle.std.proofs.Common.{◌≡◌, ◌++◌, replicate}
use Rattle.kn_system.specs.declared.nodes.Up.TheVariants.{Node}
use Rattle.kn_system.proofs.node_table.add_parts.Given as goal

abbrev pub invariant-loop-part : goal.invariant-loop-part
invariant-loop-part l = l.above.items ≡ l.initial.above.items ++ replicate l._part (Node l.node)
