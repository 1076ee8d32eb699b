use Rattle.std.proofs.Common.{◌≡◌, ◌++◌, ◌∷◌, [], List, length, sym, ap, ◌∙◌, subst, arith}
use Rattle.std.proofs.lemmas.List.{length-map, map_push}
use Rattle.kn_system.specs.declared.rows.Piece.{Piece}
use Rattle.kn_system.specs.LinkedNodes.{AreLastUses, AreLinked, LinkedNode, last_before, node_pieces}
use Rattle.kn_system.specs.Nodes.{FlatNodes}
use Rattle.kn_system.proofs.AddedRows.{leaf_count-le}
use Rattle.kn_system.proofs.LinkedUses.{linked_more}
use Rattle.kn_system.proofs.node_table.NodeTable.push.Goals as goal

pub link_node-requires-clause-few : goal.link_node-requires-clause-few
link_node-requires-clause-few c =
    let s = c.self.inside in
    omega (
      arith,
      c.self.invariant.1.count,
      leaf_count-le (node_pieces s.nodes.items),
      ap (λ (f : FlatNodes). length f.pieces) c.self.view_is,
      c.requires.few,
    )

pub invariant_of-self-2 : goal.invariant_of-self-2
invariant_of-self-2 c =
    let s = c.self.inside in
    let nodes : List LinkedNode = s.nodes.items in
    let node : LinkedNode = c.in_ok-node.node in
    let all : c.put.new.self.items ≡ nodes ++ node ∷ [] =
    c.put.ensures.items ∙ ap (λ (ns : List LinkedNode). ns ++ node ∷ []) c.in_ok-reserve.ensures.items in
    let count : length (node_pieces nodes) ≡ length nodes = simp length-map in
    let here : length (node_pieces nodes) ≡ c.len.result =
    omega (arith, count, c.len.ensures, ap length c.in_ok-reserve.ensures.items) in
    let pieces : node_pieces c.put.new.self.items ≡ node_pieces nodes ++ c.args.piece ∷ [] =
    ap node_pieces all ∙ map_push (λ (n : LinkedNode). n.piece) nodes node
    ∙ ap (λ (x : Piece). node_pieces nodes ++ x ∷ []) c.in_ok-node.ensures.piece in
    let linked = c.in_ok-node.ensures.before (node_pieces nodes) c.self.invariant.1 in
    let uses = c.in_ok-node.ensures.ok (node_pieces nodes) here c.self.invariant.1 in (
      subst AreLinked (sym all) (linked_more nodes node c.self.invariant.0
          (linked ∙ ap (last_before (node_pieces nodes)) (sym c.in_ok-node.ensures.piece))),
      subst (λ (ps : List Piece). AreLastUses ps c.link_node.new.uses.last.items c.link_node.new.uses.count)
          (sym pieces) uses,
    )
