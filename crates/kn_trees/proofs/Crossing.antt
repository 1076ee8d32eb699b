-- Expressions may go to other threads, and be looked at there.
use denote.Param.Send.{IsSend, IsSync, sendable}
use Rattle.std.proofs.Crossing.{crosses}
use Rattle.kn_trees.specs.contracts.forest.Node as node
use Rattle.kn_trees.specs.contracts.forest.LinkNode as link
use Rattle.kn_trees.specs.contracts.forest.Forest as forest
use Rattle.kn_trees.specs.contracts.root.Root as root
use Rattle.kn_trees.specs.contracts.flat_expr.FlatExpr as flat

node_send : IsSend (node.the_field).row
node_send = search sendable depth 60

node_sync : IsSync (node.the_field).row
node_sync = search sendable depth 60

link_send : IsSend (link.the_field).row
link_send = search sendable depth 20

link_sync : IsSync (link.the_field).row
link_sync = search sendable depth 20

forest_send : IsSend (forest.the_field).row
forest_send = search (sendable, crosses, node_send, link_send) depth 20

forest_sync : IsSync (forest.the_field).row
forest_sync = search (sendable, crosses, node_sync, link_sync) depth 20

root_send : IsSend (root.the_field).row
root_send = search sendable depth 20

root_sync : IsSync (root.the_field).row
root_sync = search sendable depth 20

pub flat_send : IsSend (flat.the_field).row
flat_send = search (sendable, forest_send, root_send) depth 20

pub flat_sync : IsSync (flat.the_field).row
flat_sync = search (sendable, forest_sync, root_sync) depth 20
