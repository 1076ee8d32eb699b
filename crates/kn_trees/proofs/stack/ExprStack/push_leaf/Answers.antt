use Rattle.std.proofs.Common.{sym}
use Rattle.kn_trees.specs.Signs.{leaf_of}
use Rattle.kn_trees.proofs.ExprKindLaws.{kind_of-leaf}
use Rattle.kn_trees.proofs.stack.ExprStack.push_leaf.Goals as goal

pub invariant_of-self-2 : goal.invariant_of-self-2
invariant_of-self-2 c =
    rw c.in_ok-place.ensures.ok
    (c.put_root.ensures.roots c.self.inside.forest (leaf_of c.args.leaf c.args.bytes.now) c.in_ok-place.ensures.place
    (sym (kind_of-leaf c.args.leaf c.args.bytes.now)) c.self.invariant)
