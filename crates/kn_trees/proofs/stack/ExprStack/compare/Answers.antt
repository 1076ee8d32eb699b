use Rattle.std.proofs.Common.{◌≡◌, ◌+◌, ◌-◌, [], ◌∷◌, ◌++◌, length, sym, ap, ◌∙◌, arith}
use Rattle.std.proofs.lemmas.List.{append_assoc}
use Rattle.kn_trees.specs.ExprKinds.{kind_of}
use Rattle.kn_trees.specs.Forests.{tree_at}
use Rattle.kn_trees.specs.declared.program.Expr.TheVariants as E
use Rattle.kn_trees.proofs.ExprKindLaws.{kind_of-Compare}
use Rattle.kn_trees.proofs.Roots.{length-trees_at, root-found, tree-found, roots-put, trees-put}
use Rattle.kn_trees.proofs.stack.ExprStack.compare.Goals as goal

pub invariant_of-self-2 : goal.invariant_of-self-2
invariant_of-self-2 c =
    let s = c.self.inside in
    let below = root-found s.forest s.roots.items (c.len-at.result - 2) c.root_at-left.result c.root_at-left.ensures
    c.self.invariant in
    let above = root-found s.forest s.roots.items (c.len-at.result - 2 + 1) c.root_at-right.result
    c.root_at-right.ensures c.self.invariant in
    let left = tree_at s.forest c.root_at-left.result.place in
    let right = tree_at s.forest c.root_at-right.result.place in
    let kind : c.gives-kind.result ≡ kind_of (E.Compare c.args.sign left right) =
    rw (c.gives-kind.ensures, c.are_compared.ensures, below.kind, above.kind, kind_of-Compare c.args.sign left right) in
    rw c.in_ok-place.ensures.ok
    (roots-put s.forest (E.Compare c.args.sign left right) s.roots.items _ (c.len-at.result - 2) _
    c.in_ok-place.ensures.place c.self.invariant
    c.replace_from.ensures kind)

pub returns-clause-ok : goal.returns-clause-ok
returns-clause-ok c = λ front left right same.
    let s = c.self.inside in
    let here = c.self.view_is ∙ same in
    let at : c.len-at.result - 2 ≡ length s.roots.items - 2 = omega (arith, c.len-at.ensures.value) in
    let all = length-trees_at s.forest s.roots.items ∙ ap length c.self.view_is in
    let above : c.len-at.result - 2 + 1 ≡ length s.roots.items - 1 =
    omega (arith, all, c.requires, c.len-at.ensures.value) in
    let lower =
    tree-found s.forest s.roots.items (c.len-at.result - 2) c.root_at-left.result c.root_at-left.ensures front
    (right ∷ []) left here at in
    let upper =
    tree-found s.forest s.roots.items (c.len-at.result - 2 + 1) c.root_at-right.result c.root_at-right.ensures
    (front ++ left ∷ []) [] right
    (here ∙ sym (append_assoc front (left ∷ []) (right ∷ []))) above in
    let put =
    trees-put s.forest _ s.roots.items _ (c.len-at.result - 2) _ c.in_ok-place.ensures.place c.self.invariant
    c.replace_from.ensures
    front (left ∷ right ∷ []) here at in
    rw (c.in_ok-place.ensures.ok, ← lower, ← upper) put
