use Rattle.kn_trees.specs.Forests.{no_pools, tree_of}
use Rattle.kn_trees.proofs.stack.put.Goals as goal

pub returns-clause-roots : goal.returns-clause-roots
returns-clause-roots c =
    let tree = tree_of no_pools c.args.forest.now c.args.node in
    rw c.in_ok-place.ensures.ok
    (c.put_root.ensures.roots c.args.forest.now tree c.in_ok-place.ensures.place c.requires.kind c.requires.roots)
