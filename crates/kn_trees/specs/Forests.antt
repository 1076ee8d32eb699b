-- Expressions as one list of nodes, each of which names its parts by their places.
use Rattle.std.specs.Prelude.{◌≡◌, ℕ, ◌+◌, ◌<◌, ◌≤◌, ◌^◌, false, List, [], ◌∷◌, ◌++◌, All, fold, length, map}
use Rattle.std.specs.Prelude.{slice_index_or, slice_range, Result, IfOk, OnOk, OnErr}
use Rattle.kn_base.specs.declared.span.Span.{Span}
use Rattle.kn_trees.specs.declared.program.Expr.{Expr}
use Rattle.kn_trees.specs.declared.program.Expr.TheVariants as E
use Rattle.kn_trees.specs.declared.program.Link2.{Link2}
use Rattle.kn_trees.specs.declared.forest.LinkNode.{LinkNode}
use Rattle.kn_trees.specs.declared.forest.Node.{Node}
use Rattle.kn_trees.specs.declared.forest.Node.TheVariants.{Truth, Whole, Text, Name, Not, Minus, Number, Deref, And}
use Rattle.kn_trees.specs.declared.forest.Node.TheVariants.{Or, Compare, Chain}

-- the lists of which nodes name runs
pub record Pools : Type 0 where
  pub parts : List ℕ
  pub links : List LinkNode
  pub bytes : List ℕ

-- the pools with these lists
abbrev pub pools : List ℕ → List LinkNode → List ℕ → Pools
pools parts links bytes = record { parts = parts; links = links; bytes = bytes }

-- without pools, a node can name no run but an empty one
abbrev pub no_pools : Pools
no_pools = pools [] [] []

-- what a pool has from a span's start up to its end
abbrev pub run : {X : Type 0} → List X → Span → List X
run pool span = slice_range pool span.start span.end

-- the tree at a place; only places within the list are asked for
abbrev pub tree_at : List Expr → ℕ → Expr
tree_at trees place = slice_index_or trees place (E.Truth false)

-- the operation of a link, with the tree at the place of its right side
abbrev pub link_at : List Expr → LinkNode → Link2
link_at trees l = record { sign = l.sign; right = tree_at trees l.right }

-- the tree of a node, by the trees of the nodes before it
abbrev pub tree_of : Pools → List Expr → Node → Expr
tree_of ps trees (Truth value) = E.Truth value
tree_of ps trees (Whole value) = E.Whole value
tree_of ps trees (Text span) = E.Text (run ps.bytes span)
tree_of ps trees (Name span) = E.Name (run ps.bytes span)
tree_of ps trees (Not part) = E.Not (tree_at trees part)
tree_of ps trees (Minus part) = E.Minus (tree_at trees part)
tree_of ps trees (Number part) = E.Number (tree_at trees part)
tree_of ps trees (Deref part) = E.Deref (tree_at trees part)
tree_of ps trees (And span) = E.And (map (tree_at trees) (run ps.parts span))
tree_of ps trees (Or span) = E.Or (map (tree_at trees) (run ps.parts span))
tree_of ps trees (Compare sign left right) = E.Compare sign (tree_at trees left) (tree_at trees right)
tree_of ps trees (Chain first span) = E.Chain (tree_at trees first) (map (link_at trees) (run ps.links span))

-- the trees of nodes, in their order
unfoldable pub trees_of : Pools → List Node → List Expr
trees_of ps nodes = fold (λ trees node. trees ++ tree_of ps trees node ∷ []) [] nodes

-- a span is one of a pool of so many items
pub record IsWithin (size : ℕ) (span : Span) : Type 0 where
  pub ordered : span.start ≤ span.end
  pub inside : span.end ≤ size

-- a node at this place names only nodes before it, and runs within the pools
abbrev pub IsPlaced : Pools → ℕ → Node → Type 0
IsPlaced ps place (Truth value) = Unit {0}
IsPlaced ps place (Whole value) = Unit {0}
IsPlaced ps place (Text span) = IsWithin (length ps.bytes) span
IsPlaced ps place (Name span) = IsWithin (length ps.bytes) span
IsPlaced ps place (Not part) = part < place
IsPlaced ps place (Minus part) = part < place
IsPlaced ps place (Number part) = part < place
IsPlaced ps place (Deref part) = part < place
IsPlaced ps place (And span) = IsWithin (length ps.parts) span × All (λ part. part < place) (run ps.parts span)
IsPlaced ps place (Or span) = IsWithin (length ps.parts) span × All (λ part. part < place) (run ps.parts span)
IsPlaced ps place (Compare sign left right) = (left < place) × (right < place)
IsPlaced ps place (Chain first span) = (first < place) × IsWithin (length ps.links) span
    × All (λ l. l.right < place) (run ps.links span)

-- each node is so at its place
abbrev pub ArePlaced : Pools → List Node → Type 0
ArePlaced ps nodes = (k : ℕ) (d : Node) → k < length nodes → IsPlaced ps k (slice_index_or nodes k d)

-- places in the pools are numbers of 32 bits
pub record AreShort (ps : Pools) : Type 0 where
  pub parts : length ps.parts < 2 ^ 32
  pub links : length ps.links < 2 ^ 32
  pub bytes : length ps.bytes < 2 ^ 32

-- nodes that are trees
pub record IsForest (ps : Pools) (nodes : List Node) : Type 0 where
  pub short : AreShort ps
  pub placed : ArePlaced ps nodes

-- old trees grow by this one, whose place is given, or stay
pub record IsAdded {E : Type 0} (old : List Expr) (tree : Expr) (new : List Expr) (result : Result ℕ E) : Type 0 where
  pub place : IfOk result (λ place. place ≡ length old)
  pub ok : OnOk result (new ≡ old ++ tree ∷ [])
  pub err : OnErr result (new ≡ old)

-- an old pool grows by this list, whose span is given, or stays
pub record IsKept {X E : Type 0} (old more new : List X) (result : Result Span E) : Type 0 where
  pub span : IfOk result (λ span. (span.start ≡ length old) × (span.end ≡ length old + length more))
  pub ok : OnOk result (new ≡ old ++ more)
  pub err : OnErr result (new ≡ old)
