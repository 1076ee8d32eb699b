use Rattle.std.proofs.Common.{◌≡◌, ◌-◌, [], ◌∷◌, ◌++◌, length, sym, ap, ◌∙◌, arith}
use Rattle.kn_trees.specs.ExprKinds.{kind_of}
use Rattle.kn_trees.specs.Forests.{no_pools, tree_of}
use Rattle.kn_trees.specs.Signs.{with_prefix}
use Rattle.kn_trees.proofs.Roots.{root-found, tree-found, roots-put, trees-put}
use Rattle.kn_trees.proofs.stack.ExprStack.apply.Goals as goal

pub invariant_of-self-2 : goal.invariant_of-self-2
invariant_of-self-2 c =
    let s = c.self.inside in
    let part = root-found s.forest s.roots.items (c.len-at.result - 1) c.root_at-part.result c.root_at-part.ensures
    c.self.invariant in
    rw c.in_ok-place.ensures.ok
    (roots-put s.forest (tree_of no_pools s.forest c.node.result) s.roots.items _ (c.len-at.result - 1) _
    c.in_ok-place.ensures.place c.self.invariant
    c.replace_from.ensures (c.kind-kind.ensures _ part.kind ∙ ap kind_of (sym (c.node.ensures.tree s.forest))))

pub returns-clause-ok : goal.returns-clause-ok
returns-clause-ok c = λ front part same.
    let s = c.self.inside in
    let at : c.len-at.result - 1 ≡ length s.roots.items - 1 = omega (arith, c.len-at.ensures.value) in
    let found =
    tree-found s.forest s.roots.items (c.len-at.result - 1) c.root_at-part.result c.root_at-part.ensures front [] part
    (c.self.view_is ∙ same) at in
    let put =
    trees-put s.forest (tree_of no_pools s.forest c.node.result) s.roots.items _ (c.len-at.result - 1) _
    c.in_ok-place.ensures.place c.self.invariant
    c.replace_from.ensures front (part ∷ []) (c.self.view_is ∙ same) at in
    rw c.in_ok-place.ensures.ok (put
    ∙ ap (λ t. front ++ t ∷ []) (c.node.ensures.tree s.forest ∙ ap (with_prefix c.args.sign) found))
