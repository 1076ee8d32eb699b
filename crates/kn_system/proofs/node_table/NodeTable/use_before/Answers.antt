use Rattle.std.proofs.Common.{◌≡◌, ◌<◌, List, Some, slice_get, slice_index_or, length, ap, ◌∙◌, arith}
use Rattle.std.proofs.lemmas.List.{length-map}
use Rattle.kn_system.specs.declared.rows.Piece.{Piece}
use Rattle.kn_system.specs.LinkedNodes.{LinkedNode, node_before, node_pieces}
use Rattle.kn_system.specs.Nodes.{FlatNodes, use_before_at, uses_of}
use Rattle.kn_system.proofs.LinkedUses.{use_read}
use Rattle.kn_system.proofs.node_table.NodeTable.use_before.Goals as goal

pub returns : goal.returns
returns c = λ principal k h.
    let nodes : List LinkedNode = c.self.inside.nodes.items in
    let pieces : node_pieces nodes ≡ c.args.self.now.pieces = ap (λ (f : FlatNodes). f.pieces) c.self.view_is in
    let count : length (node_pieces nodes) ≡ length nodes = simp length-map in
    let within : c.args.node < length nodes = omega (arith, c.requires, ap length pieces, count) in
    let node : LinkedNode = c.index-as_slice-node.result in
    let read : node ≡ slice_index_or nodes c.args.node node = c.index-as_slice-node.is
    ∙ ap (λ (ns : List LinkedNode). slice_index_or ns c.args.node node) c.as_slice.ensures in
    let found : slice_get (uses_of principal (node_pieces nodes)) k ≡ Some c.args.node =
    ap (λ (ps : List Piece). slice_get (uses_of principal ps) k) pieces ∙ h in
    c.node_below.ensures ∙ ap node_before c.before-2.ensures
    ∙ use_read nodes c.args.node node c.self.invariant.0 within read principal k found
    ∙ ap (λ (ps : List Piece). use_before_at (uses_of principal ps) k) pieces
