use Rattle.kn_trees.proofs.Roots.{roots-push, trees_at-push, trees_at-append}
use Rattle.kn_trees.proofs.stack.put_root.Goals as goal

pub returns-in-Ok-clause-roots : goal.returns-in-Ok-clause-roots
returns-in-Ok-clause-roots c =
    λ trees tree last kind here.
    rw c.in-Ok.ensures.ok (roots-push trees tree c.args.roots.now.items c.args.root last here kind)

pub returns-in-Ok-clause-ok : goal.returns-in-Ok-clause-ok
returns-in-Ok-clause-ok c =
    λ trees tree last here.
    rw c.in-Ok.ensures.ok (trees_at-push trees tree c.args.roots.now.items c.args.root last here)

pub returns-in-Err-clause-err : goal.returns-in-Err-clause-err
returns-in-Err-clause-err c =
    λ trees more here. rw c.in-Err.ensures.err (trees_at-append trees more c.args.roots.now.items here)
