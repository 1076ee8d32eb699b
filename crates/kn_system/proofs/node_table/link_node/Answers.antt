use Rattle.std.proofs.Common.{◌++◌, ◌∷◌, [], sym, subst}
use Rattle.kn_system.specs.declared.rows.Piece.{Piece}
use Rattle.kn_system.specs.LinkedNodes.{AreLastUses}
use Rattle.kn_system.proofs.LinkedUses.{last_uses-gate, last_uses-who}
use Rattle.kn_system.proofs.node_table.link_node.Goals as goal

pub returns-in_ok-before-in-Who-clause-ok : goal.returns-in_ok-before-in-Who-clause-ok
returns-in_ok-before-in-Who-clause-ok c = λ ps size are.
    subst (λ (x : Piece). AreLastUses (ps ++ x ∷ []) c.push.new.self.last.items c.push.new.self.count) (sym c.in-Who.is)
    (last_uses-who ps c.in-Who.principal c.args.node c.args.uses.now.last.items c.push.new.self.last.items
    c.args.uses.now.count c.push.new.self.count are size c.in_ok-before-in-Who.ensures.last
    c.in_ok-before-in-Who.ensures.count)

pub returns-in-Gate-clause-ok : goal.returns-in-Gate-clause-ok
returns-in-Gate-clause-ok c = λ ps size are.
    subst (λ (x : Piece). AreLastUses (ps ++ x ∷ []) c.args.uses.now.last.items c.args.uses.now.count)
    (sym c.in-Gate.is)
    (last_uses-gate ps c.in-Gate.need c.in-Gate.count c.args.uses.now.last.items c.args.uses.now.count are)
