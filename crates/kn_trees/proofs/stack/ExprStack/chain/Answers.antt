use Rattle.std.proofs.Common.{◌≡◌, ◌+◌, ◌-◌, [], ◌∷◌, ◌++◌, length, sym, ap, ◌∙◌, arith}
use Rattle.std.specs.List.{All}
use Rattle.std.proofs.lemmas.List.{append_assoc}
use Rattle.std.proofs.lemmas.List.Elements.{All-drop}
use Rattle.kn_trees.specs.ExprKinds.{kind_of}
use Rattle.kn_trees.specs.Forests.{tree_at}
use Rattle.kn_trees.specs.Forms.{links_of}
use Rattle.kn_trees.specs.Roots.{IsRoot, trees_at}
use Rattle.kn_trees.specs.declared.program.Expr.TheVariants as E
use Rattle.kn_trees.proofs.ExprKindLaws.{kind_of-Chain}
use Rattle.kn_trees.proofs.Roots.{kinds-links_of, length-trees_at, root-found, tree-found, trees-parts, roots-put}
use Rattle.kn_trees.proofs.Roots.{trees-put}
use Rattle.kn_trees.proofs.stack.ExprStack.chain.Goals as goal

pub invariant_of-self-2 : goal.invariant_of-self-2
invariant_of-self-2 c =
    let s = c.self.inside in
    let rights = c.roots_from-rights.result.now in
    let first = c.root_at-first.result in
    let from = c.len.result - length c.args.signs.now - 1 in
    let tree = E.Chain (tree_at s.forest first.place) (links_of c.args.signs.now (trees_at s.forest rights)) in
    let here : All (IsRoot s.forest) rights =
    rw c.roots_from-rights.ensures (All-drop (IsRoot s.forest) (from + 1) s.roots.items c.self.invariant) in
    let root = root-found s.forest s.roots.items from first c.root_at-first.ensures c.self.invariant in
    let kind : c.chain_kind-kind.result ≡ kind_of tree =
    rw (
      c.chain_kind-kind.ensures,
      root.kind,
      kinds-links_of s.forest c.args.signs.now rights here,
      kind_of-Chain (tree_at s.forest first.place) (links_of c.args.signs.now (trees_at s.forest rights)),
    ) in
    rw c.in_ok-place.ensures.ok
    (roots-put s.forest tree s.roots.items _ from _ c.in_ok-place.ensures.place c.self.invariant c.replace_from.ensures
    kind)

pub returns-clause-ok : goal.returns-clause-ok
returns-clause-ok c = λ front rights first same count.
    let s = c.self.inside in
    let here = c.self.view_is ∙ same in
    let signs = c.args.signs.now in
    let from = c.len.result - length signs - 1 in
    let all = length-trees_at s.forest s.roots.items ∙ ap length c.self.view_is in
    let at : from ≡ length s.roots.items - length (first ∷ rights) = omega (arith, count, c.len.ensures.value) in
    let found = tree-found s.forest s.roots.items from c.root_at-first.result c.root_at-first.ensures front rights first
    here at in
    let split =
    trees-parts s.forest s.roots.items (from + 1) (front ++ first ∷ []) rights (here
    ∙ sym (append_assoc front (first ∷ []) rights))
    (omega (arith, all, count, c.requires.enough, c.len.ensures.value)) in
    let put =
    trees-put s.forest _ s.roots.items _ from _ c.in_ok-place.ensures.place c.self.invariant c.replace_from.ensures
    front (first ∷ rights) here at in
    rw c.in_ok-place.ensures.ok
    (put ∙ ap (λ t. front ++ E.Chain t (links_of signs (trees_at s.forest c.roots_from-rights.result.now)) ∷ []) found
    ∙ ap (λ ts. front ++ E.Chain first (links_of signs ts) ∷ []) (ap (trees_at s.forest) c.roots_from-rights.ensures
    ∙ split.1))
