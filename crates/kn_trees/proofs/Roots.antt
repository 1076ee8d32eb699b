-- Trees by their places and kinds, as a forest grows.
use Rattle.std.proofs.Common.{◌≡◌, false, ℕ, suc, ◌+◌, ◌-◌, ◌<◌, List, [], ◌∷◌, ◌++◌, length, map, take, drop, get_or}
use Rattle.std.proofs.Common.{slice_get, Some, refl, sym, ap, subst, ◌∙◌, arith, length-append}
use mathlib.Core.List.{map-map}
use Rattle.std.specs.List.{All, zip}
use Rattle.std.proofs.lemmas.List.{drop-map, drop_at, get_or-map, get_or_at, get_or_push, length-map, length_push}
use Rattle.std.proofs.lemmas.List.{map_push, take-map, take_at}
use Rattle.std.proofs.lemmas.Option.{get_or_from_slice_get, slice_get_within}
use Rattle.std.proofs.lemmas.List.Elements.{All-head, All-push, All-tail, All-take}
use Rattle.kn_trees.specs.ExprKinds.{kind_of}
use Rattle.kn_trees.specs.Forms.{links_of}
use Rattle.kn_trees.specs.Forests.{tree_at}
use Rattle.kn_trees.specs.Roots.{IsRoot, trees_at}
use Rattle.kn_trees.specs.declared.program.Expr.{Expr}
use Rattle.kn_trees.specs.declared.program.Expr.TheVariants as E
use Rattle.kn_trees.specs.declared.program.Operation.{Operation}
use Rattle.kn_trees.specs.declared.root.Root.{Root}
use Rattle.kn_trees.proofs.Forests.{map-same, tree_at-append}
use Rattle.kn_trees.proofs.ExprKindLaws.{kinds_of}

IsRoot-append : (trees more : List Expr) (root : Root) → IsRoot trees root → IsRoot (trees ++ more) root
IsRoot-append trees more root here = record {
  inside = omega (arith, length-append trees more, here.inside);
  kind = here.kind ∙ ap kind_of (sym (tree_at-append trees more root.place here.inside));
}

-- roots stay where trees are added
pub roots-append : (trees more : List Expr) (roots : List Root) → All (IsRoot trees) roots
    → All (IsRoot (trees ++ more)) roots
roots-append trees more roots here = λ k d h. IsRoot-append trees more (get_or roots k d) (here k d h)

pub trees_at-append : (trees more : List Expr) (roots : List Root) → All (IsRoot trees) roots
    → trees_at (trees ++ more) roots ≡ trees_at trees roots
trees_at-append trees more roots here =
    map-same (λ root. tree_at (trees ++ more) root.place) (λ root. tree_at trees root.place) roots
    (λ k d h. tree_at-append trees more (get_or roots k d).place (here k d h).inside)

pub length-trees_at : (trees : List Expr) (roots : List Root) → length roots ≡ length (trees_at trees roots)
length-trees_at trees roots = sym (length-map roots (λ (root : Root). tree_at trees root.place))

-- the tree that was added is put on top
module _ (trees : List Expr) (tree : Expr) (roots : List Root) (root : Root)
    (last : root.place ≡ length trees) (here : All (IsRoot trees) roots) where
  found : tree_at (trees ++ tree ∷ []) root.place ≡ tree
  found = get_or_push trees tree (E.Truth false) root.place (sym last)

  pub roots-push : root.kind ≡ kind_of tree → All (IsRoot (trees ++ tree ∷ [])) (roots ++ root ∷ [])
  roots-push right =
      let top : IsRoot (trees ++ tree ∷ []) root =
      record { inside = omega (arith, length_push trees tree); kind = right ∙ ap kind_of (sym found) } in
      All-push (IsRoot (trees ++ tree ∷ [])) roots root (roots-append trees (tree ∷ []) roots here) top

  pub trees_at-push : trees_at (trees ++ tree ∷ []) (roots ++ root ∷ []) ≡ trees_at trees roots ++ tree ∷ []
  trees_at-push =
      map_push (λ (t : Root). tree_at (trees ++ tree ∷ []) t.place) roots root
      ∙ ap (λ ts. ts ++ tree_at (trees ++ tree ∷ []) root.place ∷ []) (trees_at-append trees (tree ∷ []) roots here)
      ∙ ap (λ t. trees_at trees roots ++ t ∷ []) found

-- the kinds of roots are those of their trees
pub kinds-trees_at : (trees : List Expr) (roots : List Root) → All (IsRoot trees) roots
    → map (λ root. root.kind) roots ≡ map kind_of (trees_at trees roots)
kinds-trees_at trees roots here =
    let tree : Root → Expr = λ root. tree_at trees root.place in
    map-same (λ root. root.kind) (λ root. kind_of (tree root)) roots (λ k d h. (here k d h).kind)
    ∙ sym (map-map kind_of tree roots)

pub kinds-links_of : (trees : List Expr) (signs : List Operation) (roots : List Root) → All (IsRoot trees) roots
    → zip signs (map (λ root. root.kind) roots) ≡ kinds_of (links_of signs (trees_at trees roots))
kinds-links_of trees [] roots here = refl
kinds-links_of trees (sign ∷ signs) [] here = refl
kinds-links_of trees (sign ∷ signs) (root ∷ roots) here =
    let rest = All-tail (IsRoot trees) root roots here in
    ap (λ kind. (sign, kind) ∷ zip signs (map (λ r. r.kind) roots)) (All-head (IsRoot trees) root roots here).kind
    ∙ ap (λ links. (sign, kind_of (tree_at trees root.place)) ∷ links) (kinds-links_of trees signs roots rest)

-- the trees of some roots, and of those above them
pub trees-parts : (trees : List Expr) (roots : List Root) (from : ℕ) (front parts : List Expr)
    → trees_at trees roots ≡ front ++ parts
    → from ≡ length roots - length parts
    → (trees_at trees (take from roots) ≡ front) × (trees_at trees (drop from roots) ≡ parts)
trees-parts trees roots from front parts same at =
    let f : Root → Expr = λ root. tree_at trees root.place in
    let all : length (trees_at trees roots) ≡ length front + length parts = ap length same
    ∙ length-append front parts in
    let here : length front ≡ from = omega (arith, length-map roots f) in (
      sym (take-map f from roots) ∙ ap (take from) same ∙ take_at front parts from here,
      sym (drop-map f from roots) ∙ ap (drop from) same ∙ drop_at front parts from here,
    )

-- the tree that was added is put in place of those from a place on
module _ (trees : List Expr) (tree : Expr) (roots new : List Root) (at : ℕ) (root : Root)
    (last : root.place ≡ length trees)
    (here : All (IsRoot trees) roots) (put : new ≡ take at roots ++ root ∷ []) where
  pub roots-put : root.kind ≡ kind_of tree → All (IsRoot (trees ++ tree ∷ [])) new
  roots-put right =
      subst (All (IsRoot (trees ++ tree ∷ []))) (sym put)
      (roots-push trees tree (take at roots) root last (All-take (IsRoot trees) at roots here) right)

  pub trees-put : (front parts : List Expr) → trees_at trees roots ≡ front ++ parts → at ≡ length roots - length parts
      → trees_at (trees ++ tree ∷ []) new ≡ front ++ tree ∷ []
  trees-put front parts same from =
      ap (trees_at (trees ++ tree ∷ [])) put
      ∙ trees_at-push trees tree (take at roots) root last (All-take (IsRoot trees) at roots here)
      ∙ ap (λ ts. ts ++ tree ∷ []) (trees-parts trees roots at front parts same from).0

-- the root at a place
module _ (trees : List Expr) (roots : List Root) (at : ℕ) (root : Root) (is : slice_get roots at ≡ Some root) where
  inside : at < length roots
  inside = slice_get_within roots at root is

  same_root : get_or roots at root ≡ root
  same_root = get_or_from_slice_get roots at root root is

  pub root-found : All (IsRoot trees) roots → IsRoot trees root
  root-found here = subst (IsRoot trees) same_root (here at root inside)

  pub tree-found : (front rest : List Expr) (tree : Expr) → trees_at trees roots ≡ front ++ tree ∷ rest
      → at ≡ length roots - suc (length rest)
      → tree_at trees root.place ≡ tree
  tree-found front rest tree same from =
      let f : Root → Expr = λ t. tree_at trees t.place in
      let all : length (trees_at trees roots) ≡ length front + suc (length rest) = ap length same
      ∙ length-append front (tree ∷ rest) in
      let here : length front ≡ at = omega (arith, length-map roots f, inside) in
      sym (ap f same_root) ∙ sym (get_or-map f roots at root tree inside) ∙ ap (λ ts. get_or ts at tree) same
      ∙ get_or_at front tree rest tree at here
