use Rattle.std.proofs.Common.{◌≡◌, ◌++◌, ◌∷◌, [], List, ap, ◌∙◌, subst}
use Rattle.std.proofs.lemmas.List.{map_push}
use Rattle.kn_system.specs.declared.rows.Piece.{Piece}
use Rattle.kn_system.specs.LinkedNodes.{AreLastUses, AreLinked, LinkedNode, node_pieces}
use Rattle.kn_system.proofs.LinkedUses.{IsLast, linked_less}
use Rattle.kn_system.proofs.node_table.NodeTable.pop.Goals as goal

pub invariant_of-self : goal.invariant_of-self
invariant_of-self c =
    let s = c.self.inside in
    let rest : List LinkedNode = c.pop.new.self.items in
    let node : LinkedNode = c.in-Some.node in
    let less : IsLast rest node =
    linked_less rest node (subst AreLinked c.in-Some.ensures.some c.self.invariant.0) in
    let pieces : node_pieces s.nodes.items ≡ node_pieces rest ++ node.piece ∷ [] =
    ap node_pieces c.in-Some.ensures.some ∙ map_push (λ (n : LinkedNode). n.piece) rest node in (
      less.linked,
      c.unlink_node.ensures (node_pieces rest) less.last
          (subst (λ (ps : List Piece). AreLastUses ps s.uses.last.items s.uses.count) pieces c.self.invariant.1),
    )

pub unlink_node-requires : goal.unlink_node-requires
unlink_node-requires c =
    let s = c.self.inside in
    let rest : List LinkedNode = c.pop.new.self.items in
    let node : LinkedNode = c.in-Some.node in
    let pieces : node_pieces s.nodes.items ≡ node_pieces rest ++ node.piece ∷ [] =
    ap node_pieces c.in-Some.ensures.some ∙ map_push (λ (n : LinkedNode). n.piece) rest node in (
      node_pieces rest,
      subst (λ (ps : List Piece). AreLastUses ps s.uses.last.items s.uses.count) pieces c.self.invariant.1,
    )
