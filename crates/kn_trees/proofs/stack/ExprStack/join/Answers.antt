use Rattle.std.proofs.Common.{◌≡◌, ◌-◌, [], ◌∷◌, ◌++◌, length, ap, ◌∙◌, arith}
use Rattle.std.specs.List.{All}
use Rattle.std.proofs.lemmas.List.Elements.{All-drop}
use Rattle.kn_trees.specs.ExprKinds.{kind_of}
use Rattle.kn_trees.specs.Roots.{IsRoot, trees_at}
use Rattle.kn_trees.specs.Signs.{join_expressions}
use Rattle.kn_trees.proofs.ExprKindLaws.{kind_of-joined}
use Rattle.kn_trees.proofs.Roots.{kinds-trees_at, trees-parts, roots-put, trees-put}
use Rattle.kn_trees.proofs.stack.ExprStack.join.Goals as goal

pub invariant_of-self-2 : goal.invariant_of-self-2
invariant_of-self-2 c =
    let s = c.self.inside in
    let parts = c.roots_from-parts.result.now in
    let here : All (IsRoot s.forest) parts =
    rw c.roots_from-parts.ensures
    (All-drop (IsRoot s.forest) (c.len.result - c.args.count) s.roots.items c.self.invariant) in
    let kind : c.gives-kind.result ≡ kind_of (join_expressions c.args.joint (trees_at s.forest parts)) =
    rw (
      c.gives-kind.ensures,
      c.are_truths.ensures,
      kinds-trees_at s.forest parts here,
      kind_of-joined c.args.joint (trees_at s.forest parts),
    ) in
    rw c.in_ok-place.ensures.ok
    (roots-put s.forest _ s.roots.items _ (c.len.result - c.args.count) _ c.in_ok-place.ensures.place c.self.invariant
    c.replace_from.ensures kind)

pub returns-clause-ok : goal.returns-clause-ok
returns-clause-ok c = λ front parts same count.
    let s = c.self.inside in
    let here = c.self.view_is ∙ same in
    let from = c.len.result - c.args.count in
    let at : from ≡ length s.roots.items - length parts = omega (arith, count, c.len.ensures.value) in
    let split = trees-parts s.forest s.roots.items from front parts here at in
    let put =
    trees-put s.forest _ s.roots.items _ from _ c.in_ok-place.ensures.place c.self.invariant c.replace_from.ensures
    front parts here at in
    rw c.in_ok-place.ensures.ok
    (put ∙ ap (λ ts. front ++ join_expressions c.args.joint ts ∷ []) (ap (trees_at s.forest) c.roots_from-parts.ensures
    ∙ split.1))
