use Rattle.std.proofs.Common.{◌≡◌, ◌++◌, ◌∷◌, [], sym, ap, ◌∙◌, subst}
use Rattle.kn_system.specs.declared.rows.Piece.{Piece}
use Rattle.kn_system.specs.declared.rows.Piece.TheVariants.{Who}
use Rattle.kn_system.specs.LinkedNodes.{AreLastUses, last_before, node_before}
use Rattle.kn_system.proofs.LinkedUses.{last_there, last_uses-less_gate, last_uses-less_who}
use Rattle.kn_system.proofs.node_table.unlink_node.Goals as goal

pub pop-requires-clause-there : goal.pop-requires-clause-there
pop-requires-clause-there c =
    let (ps, are) = c.requires in
    (last_there ps c.in-Who.principal c.args.uses.now.last.items c.args.uses.now.count
    (subst (λ (x : Piece). AreLastUses (ps ++ x ∷ []) c.args.uses.now.last.items c.args.uses.now.count)
    (sym c.piece.ensures ∙ c.in-Who.is) are)).0

pub pop-requires-clause-some : goal.pop-requires-clause-some
pop-requires-clause-some c =
    let (ps, are) = c.requires in
    (last_there ps c.in-Who.principal c.args.uses.now.last.items c.args.uses.now.count
    (subst (λ (x : Piece). AreLastUses (ps ++ x ∷ []) c.args.uses.now.last.items c.args.uses.now.count)
    (sym c.piece.ensures ∙ c.in-Who.is) are)).1

pub returns-in-Who : goal.returns-in-Who
returns-in-Who c = λ ps linked are.
    let is : c.args.node.now.piece ≡ Who c.in-Who.principal = sym c.piece.ensures ∙ c.in-Who.is in
    let less = last_uses-less_who ps c.in-Who.principal c.before-in-Who.result c.args.uses.now.last.items
    c.args.uses.now.count c.pop.new.self.count
    (ap node_before c.before-in-Who.ensures ∙ linked ∙ ap (last_before ps) is) c.pop.ensures.count
    (subst (λ (x : Piece). AreLastUses (ps ++ x ∷ []) c.args.uses.now.last.items c.args.uses.now.count) is are) in
    subst (λ ns. AreLastUses ps ns c.pop.new.self.count) (sym c.pop.ensures.last) less

pub returns-in-Gate : goal.returns-in-Gate
returns-in-Gate c = λ ps linked are.
    last_uses-less_gate ps c.in-Gate.need c.in-Gate.count c.args.uses.now.last.items c.args.uses.now.count
    (subst (λ (x : Piece). AreLastUses (ps ++ x ∷ []) c.args.uses.now.last.items c.args.uses.now.count)
    (sym c.piece.ensures ∙ c.in-Gate.is) are)
