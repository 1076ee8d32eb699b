-- How the trees of nodes stay as nodes are added and the pools grow.
use Rattle.std.proofs.Common.{◌≡◌, false, ℕ, zero, suc, ◌+◌, ◌-◌, ◌<◌, ◌≤◌, List, [], ◌∷◌, ◌++◌, fold, length, map}
use Rattle.std.proofs.Common.{take, drop, get_or, refl, sym, ap, subst, inl, inr, ◌∙◌, arith, length-append}
use Rattle.std.specs.List.{All, slice_range}
use Rattle.std.proofs.lemmas.List.{take-append-le, drop-append-le, drop_at, take_all, length-drop, length_push}
use Rattle.std.proofs.lemmas.List.{get_or_append_left, get_or_push, append_assoc, append-nil}
use Rattle.std.proofs.lemmas.List.Elements.{All-head, All-tail}
use Rattle.std.proofs.lemmas.Bool.{cases_lt}
use Rattle.std.proofs.lemmas.List.Sums.{fold-append}
use Rattle.kn_base.specs.declared.span.Span.{Span}
use Rattle.kn_trees.specs.Forms.{link}
use Rattle.kn_trees.specs.Forests.{Pools, no_pools, run, tree_at, link_at, tree_of, trees_of, IsWithin, IsPlaced}
use Rattle.kn_trees.specs.Forests.{ArePlaced, AreShort, IsForest}
use Rattle.kn_trees.specs.declared.program.Expr.{Expr}
use Rattle.kn_trees.specs.declared.program.Expr.TheVariants as E
use Rattle.kn_trees.specs.declared.forest.LinkNode.{LinkNode}
use Rattle.kn_trees.specs.declared.forest.Node.{Node}
use Rattle.kn_trees.specs.declared.forest.Node.TheVariants.{Truth, Whole, Text, Name, Not, Minus, Number, Deref, And}
use Rattle.kn_trees.specs.declared.forest.Node.TheVariants.{Or, Compare, Chain}

-- a list that has another one as its front
abbrev pub Extends : {X : Type 0} → List X → List X → Type 0
Extends {X} old new = (more : List X) × (new ≡ old ++ more)

-- pools that have grown
pub record AreGrown (old new : Pools) : Type 0 where
  pub parts : Extends old.parts new.parts
  pub links : Extends old.links new.links
  pub bytes : Extends old.bytes new.bytes

-- functions that are the same of each item
pub map-same : {X Y : Type 0} (f g : X → Y) (xs : List X) → All (λ x. f x ≡ g x) xs → map f xs ≡ map g xs
map-same f g [] same = refl
map-same f g (x ∷ xs) same =
    let rest = map-same f g xs (All-tail (λ y. f y ≡ g y) x xs same) in
    ap (λ y. y ∷ map f xs) (All-head (λ y. f y ≡ g y) x xs same) ∙ ap (λ ys. g x ∷ ys) rest

-- a run stays where its pool grows
run-append : {X : Type 0} (pool more : List X) (span : Span) → IsWithin (length pool) span
    → run (pool ++ more) span ≡ run pool span
run-append pool more span within =
    let a : span.start ≤ length pool = omega arith in
    let b : span.end - span.start ≤ length (drop span.start pool) = omega (arith, length-drop span.start pool) in
    ap (take (span.end - span.start)) (drop-append-le span.start pool more a)
    ∙ take-append-le (span.end - span.start) (drop span.start pool) more b

run-stays : {X : Type 0} (old new : List X) (span : Span) → Extends old new → IsWithin (length old) span
    → run new span ≡ run old span
run-stays old new span extends within = ap (λ pool. run pool span) extends.1 ∙ run-append old extends.0 span within

stays_within : {X : Type 0} (old new : List X) (span : Span) → Extends old new → IsWithin (length old) span
    → IsWithin (length new) span
stays_within old new span extends within =
    let longer : length new ≡ length old + length extends.0 = ap length extends.1 ∙ length-append old extends.0 in
    record { ordered = within.ordered; inside = omega (arith, within.inside) }

-- what a pool grows by is its last run
pub run-added : {X : Type 0} (pool more : List X) (start end : ℕ) → start ≡ length pool → end ≡ start + length more
    → slice_range (pool ++ more) start end ≡ more
run-added pool more start end at until =
    ap (take (end - start)) (drop_at pool more start (sym at)) ∙ take_all (end - start) more (omega arith)

-- the tree of a node stays where the pools grow
tree_of-grown : (old new : Pools) → AreGrown old new → (trees : List Expr) (place : ℕ) (node : Node)
    → IsPlaced old place node
    → tree_of new trees node ≡ tree_of old trees node
tree_of-grown old new grown trees place (Truth value) placed = refl
tree_of-grown old new grown trees place (Whole value) placed = refl
tree_of-grown old new grown trees place (Text span) placed =
    ap E.Text (run-stays old.bytes new.bytes span grown.bytes placed)
tree_of-grown old new grown trees place (Name span) placed =
    ap E.Name (run-stays old.bytes new.bytes span grown.bytes placed)
tree_of-grown old new grown trees place (Not part) placed = refl
tree_of-grown old new grown trees place (Minus part) placed = refl
tree_of-grown old new grown trees place (Number part) placed = refl
tree_of-grown old new grown trees place (Deref part) placed = refl
tree_of-grown old new grown trees place (And span) placed =
    ap (λ ps. E.And (map (tree_at trees) ps)) (run-stays old.parts new.parts span grown.parts placed.0)
tree_of-grown old new grown trees place (Or span) placed =
    ap (λ ps. E.Or (map (tree_at trees) ps)) (run-stays old.parts new.parts span grown.parts placed.0)
tree_of-grown old new grown trees place (Compare sign left right) placed = refl
tree_of-grown old new grown trees place (Chain first span) placed =
    ap (λ ls. E.Chain (tree_at trees first) (map (link_at trees) ls))
    (run-stays old.links new.links span grown.links placed.1)

-- and its node is placed as it was
IsPlaced-grown : (old new : Pools) → AreGrown old new → (place : ℕ) (node : Node) → IsPlaced old place node
    → IsPlaced new place node
IsPlaced-grown old new grown place (Truth value) placed = tt
IsPlaced-grown old new grown place (Whole value) placed = tt
IsPlaced-grown old new grown place (Text span) placed = stays_within old.bytes new.bytes span grown.bytes placed
IsPlaced-grown old new grown place (Name span) placed = stays_within old.bytes new.bytes span grown.bytes placed
IsPlaced-grown old new grown place (Not part) placed = placed
IsPlaced-grown old new grown place (Minus part) placed = placed
IsPlaced-grown old new grown place (Number part) placed = placed
IsPlaced-grown old new grown place (Deref part) placed = placed
IsPlaced-grown old new grown place (And span) placed = (
  stays_within old.parts new.parts span grown.parts placed.0,
  subst (All (λ part. part < place)) (sym (run-stays old.parts new.parts span grown.parts placed.0)) placed.1,
)
IsPlaced-grown old new grown place (Or span) placed = (
  stays_within old.parts new.parts span grown.parts placed.0,
  subst (All (λ part. part < place)) (sym (run-stays old.parts new.parts span grown.parts placed.0)) placed.1,
)
IsPlaced-grown old new grown place (Compare sign left right) placed = placed
IsPlaced-grown old new grown place (Chain first span) placed = (
  placed.0,
  stays_within old.links new.links span grown.links placed.1,
  subst (All (λ l. l.right < place)) (sym (run-stays old.links new.links span grown.links placed.1)) placed.2,
)

pub tree_at-append : (trees more : List Expr) (place : ℕ) → place < length trees
    → tree_at (trees ++ more) place ≡ tree_at trees place
tree_at-append trees more place inside = get_or_append_left trees more (E.Truth false) place inside

trees_at-append : (trees more : List Expr) (place : ℕ) (parts : List ℕ) → place ≤ length trees
    → All (λ part. part < place) parts
    → map (tree_at (trees ++ more)) parts ≡ map (tree_at trees) parts
trees_at-append trees more place parts there before =
    map-same (tree_at (trees ++ more)) (tree_at trees) parts
    (λ k d h. tree_at-append trees more (get_or parts k d) (omega (arith, before k d h)))

links_at-append : (trees more : List Expr) (place : ℕ) (links : List LinkNode) → place ≤ length trees
    → All (λ l. l.right < place) links
    → map (link_at (trees ++ more)) links ≡ map (link_at trees) links
links_at-append trees more place links there before =
    map-same (link_at (trees ++ more)) (link_at trees) links
    (λ k d h. ap (link (get_or links k d).sign)
    (tree_at-append trees more (get_or links k d).right (omega (arith, before k d h))))

-- the tree of a node stays where trees are added
tree_of-append : (pools : Pools) (trees more : List Expr) (place : ℕ) (node : Node) → place ≤ length trees
    → IsPlaced pools place node
    → tree_of pools (trees ++ more) node ≡ tree_of pools trees node
tree_of-append pools trees more place (Truth value) there placed = refl
tree_of-append pools trees more place (Whole value) there placed = refl
tree_of-append pools trees more place (Text span) there placed = refl
tree_of-append pools trees more place (Name span) there placed = refl
tree_of-append pools trees more place (Not part) there placed = ap E.Not (tree_at-append trees more part (omega arith))
tree_of-append pools trees more place (Minus part) there placed =
    ap E.Minus (tree_at-append trees more part (omega arith))
tree_of-append pools trees more place (Number part) there placed =
    ap E.Number (tree_at-append trees more part (omega arith))
tree_of-append pools trees more place (Deref part) there placed =
    ap E.Deref (tree_at-append trees more part (omega arith))
tree_of-append pools trees more place (And span) there placed =
    ap E.And (trees_at-append trees more place (run pools.parts span) there placed.1)
tree_of-append pools trees more place (Or span) there placed =
    ap E.Or (trees_at-append trees more place (run pools.parts span) there placed.1)
tree_of-append pools trees more place (Compare sign left right) there placed =
    ap (λ t. E.Compare sign t (tree_at (trees ++ more) right))
    (tree_at-append trees more left (omega (arith, placed.0)))
    ∙ ap (E.Compare sign (tree_at trees left)) (tree_at-append trees more right (omega (arith, placed.1)))
tree_of-append pools trees more place (Chain first span) there placed =
    ap (λ t. E.Chain t (map (link_at (trees ++ more)) (run pools.links span)))
    (tree_at-append trees more first (omega (arith, placed.0)))
    ∙ ap (E.Chain (tree_at trees first)) (links_at-append trees more place (run pools.links span) there placed.2)

-- the trees of nodes behind trees that are there
abbrev trees_from : Pools → List Expr → List Node → List Expr
trees_from pools before nodes = fold (λ trees node. trees ++ tree_of pools trees node ∷ []) before nodes

trees_from-grown : (old new : Pools) → AreGrown old new → (before : List Expr) (nodes : List Node) (place : ℕ → ℕ)
    → ((k : ℕ) (d : Node) → k < length nodes → IsPlaced old (place k) (get_or nodes k d))
    → trees_from new before nodes ≡ trees_from old before nodes
trees_from-grown old new grown before [] place placed = refl
trees_from-grown old new grown before (node ∷ nodes) place placed =
    let first : tree_of new before node ≡ tree_of old before node =
    tree_of-grown old new grown before (place 0) node (placed 0 node (omega arith)) in
    ap (λ t. trees_from new (before ++ t ∷ []) nodes) first
    ∙ trees_from-grown old new grown (before ++ tree_of old before node ∷ []) nodes (λ k. place (suc k))
    (λ k d h. placed (suc k) d (omega arith))

length-trees_from : (pools : Pools) (before : List Expr) (nodes : List Node)
    → length (trees_from pools before nodes) ≡ length before + length nodes
length-trees_from pools before [] = omega arith
length-trees_from pools before (node ∷ nodes) =
    let more = length-trees_from pools (before ++ tree_of pools before node ∷ []) nodes in
    omega (arith, more, length_push before (tree_of pools before node))

Extends-trees_from : (pools : Pools) (before : List Expr) (nodes : List Node)
    → Extends before (trees_from pools before nodes)
Extends-trees_from pools before [] = ([], sym (append-nil before))
Extends-trees_from pools before (node ∷ nodes) =
    let tree = tree_of pools before node in
    let rest = Extends-trees_from pools (before ++ tree ∷ []) nodes in
    (tree ∷ rest.0, rest.1 ∙ append_assoc before (tree ∷ []) rest.0)

-- each of these trees is that of its node, given all of them
tree_at-trees_from : (pools : Pools) (before : List Expr) (nodes : List Node) (k i : ℕ) (d : Node)
    → i ≡ length before + k → k < length nodes
    → ((j : ℕ) (e : Node) → j < length nodes → IsPlaced pools (length before + j) (get_or nodes j e))
    → tree_at (trees_from pools before nodes) i ≡ tree_of pools (trees_from pools before nodes) (get_or nodes k d)
tree_at-trees_from pools before [] k i d at inside placed = absurd (omega arith)
tree_at-trees_from pools before (node ∷ nodes) zero i d at inside placed =
    let tree = tree_of pools before node in
    let all = Extends-trees_from pools before (node ∷ nodes) in
    let rest = Extends-trees_from pools (before ++ tree ∷ []) nodes in
    let longer : i < length (before ++ tree ∷ []) = omega (arith, length_push before tree) in
    let first : tree_at (trees_from pools before (node ∷ nodes)) i ≡ tree =
    ap (λ trees. tree_at trees i) rest.1 ∙ tree_at-append (before ++ tree ∷ []) rest.0 i longer
    ∙ get_or_push before tree (E.Truth false) i (omega arith) in
    let same : tree_of pools (trees_from pools before (node ∷ nodes)) node ≡ tree =
    ap (λ trees. tree_of pools trees node) all.1
    ∙ tree_of-append pools before all.0 (length before + 0) node (omega arith) (placed 0 node (omega arith)) in
    first ∙ sym same
tree_at-trees_from pools before (node ∷ nodes) (suc k) i d at inside placed =
    let tree = tree_of pools before node in
    let longer : length (before ++ tree ∷ []) ≡ length before + 1 = length_push before tree in
    tree_at-trees_from pools (before ++ tree ∷ []) nodes k i d (omega arith) (omega arith)
    (λ j e h. let moved : length before + suc j ≡ length (before ++ tree ∷ []) + j = omega arith in
    let there : IsPlaced pools (length before + suc j) (get_or nodes j e) = placed (suc j) e (omega arith) in
    subst (λ n. IsPlaced pools n (get_or nodes j e)) moved there)

pub length-trees_of : (pools : Pools) (nodes : List Node) → length (trees_of pools nodes) ≡ length nodes
unfolding trees_of
length-trees_of pools nodes = omega (arith, length-trees_from pools [] nodes)

-- each tree of a forest is that of its node
pub tree_at-trees_of : (pools : Pools) (nodes : List Node) (k : ℕ) (d : Node) → k < length nodes → IsForest pools nodes
    → tree_at (trees_of pools nodes) k ≡ tree_of pools (trees_of pools nodes) (get_or nodes k d)
unfolding trees_of
tree_at-trees_of pools nodes k d inside forest =
    tree_at-trees_from pools [] nodes k k d (omega arith) inside
    (λ j e h. let moved : j ≡ 0 + j = omega arith in let there = forest.placed j e h in
    subst (λ n. IsPlaced pools n (get_or nodes j e)) moved there)

-- the pools of a forest may grow
pub IsForest-grown : (old new : Pools) (nodes : List Node) → AreGrown old new → AreShort new → IsForest old nodes
    → IsForest new nodes
IsForest-grown old new nodes grown short forest =
    record { short = short; placed = λ k d h. IsPlaced-grown old new grown k (get_or nodes k d) (forest.placed k d h) }

pub trees_of-grown : (old new : Pools) (nodes : List Node) → AreGrown old new → IsForest old nodes
    → trees_of new nodes ≡ trees_of old nodes
unfolding trees_of
trees_of-grown old new nodes grown forest = trees_from-grown old new grown [] nodes (λ k. k) forest.placed

ArePlaced-push : (pools : Pools) (nodes : List Node) (node : Node) → ArePlaced pools nodes
    → IsPlaced pools (length nodes) node
    → ArePlaced pools (nodes ++ node ∷ [])
ArePlaced-push pools nodes node placed here k d inside =
    let longer = length_push nodes node in
    elim (cases_lt k (length nodes)) [
      | inl before ↦ subst (IsPlaced pools k) (sym (get_or_append_left nodes (node ∷ []) d k before))
          (placed k d before)
      | inr behind ↦
          let last : length nodes ≡ k = omega arith in
          subst (IsPlaced pools k) (sym (get_or_push nodes node d k last))
          (subst (λ n. IsPlaced pools n node) last here)
    ]

-- a node may be added to a forest
pub IsForest-push : (pools : Pools) (nodes : List Node) (node : Node) → IsForest pools nodes
    → IsPlaced pools (length nodes) node
    → IsForest pools (nodes ++ node ∷ [])
IsForest-push pools nodes node forest here =
    record { short = forest.short; placed = ArePlaced-push pools nodes node forest.placed here }

pub trees_of-push : (pools : Pools) (nodes : List Node) (node : Node)
    → trees_of pools (nodes ++ node ∷ []) ≡ trees_of pools nodes ++ tree_of pools (trees_of pools nodes) node ∷ []
unfolding trees_of
trees_of-push pools nodes node = fold-append (λ trees n. trees ++ tree_of pools trees n ∷ []) [] nodes (node ∷ [])

-- what every forest's pools have grown from
from_no_pools : (pools : Pools) → AreGrown no_pools pools
from_no_pools pools = record { parts = (pools.parts, refl); links = (pools.links, refl); bytes = (pools.bytes, refl) }

-- a node that names no run
module _ (pools : Pools) (nodes : List Node) (node : Node) (forest : IsForest pools nodes) where
  pub IsForest-push_plain : IsPlaced no_pools (length (trees_of pools nodes)) node → IsForest pools (nodes ++ node ∷ [])
  IsForest-push_plain here =
      let placed : IsPlaced pools (length (trees_of pools nodes)) node =
      IsPlaced-grown no_pools pools (from_no_pools pools) (length (trees_of pools nodes)) node here in
      IsForest-push pools nodes node forest (subst (λ n. IsPlaced pools n node) (length-trees_of pools nodes) placed)

  pub trees_of-push_plain : IsPlaced no_pools (length (trees_of pools nodes)) node
      → trees_of pools (nodes ++ node ∷ []) ≡ trees_of pools nodes ++ tree_of no_pools (trees_of pools nodes) node ∷ []
  trees_of-push_plain here =
      trees_of-push pools nodes node
      ∙ ap (λ t. trees_of pools nodes ++ t ∷ [])
      (tree_of-grown no_pools pools (from_no_pools pools) (trees_of pools nodes) (length (trees_of pools nodes)) node
      here)

pub ruleset plain = (length-trees_of, IsForest-push_plain, trees_of-push_plain)
