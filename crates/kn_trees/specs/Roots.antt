-- Trees of a forest by their places and kinds.
use Rattle.std.specs.Prelude.{◌≡◌, ◌<◌, List, length, map, zip}
use Rattle.kn_trees.specs.ExprKinds.{kind_of}
use Rattle.kn_trees.specs.Forests.{tree_at}
use Rattle.kn_trees.specs.declared.program.Expr.{Expr}
use Rattle.kn_trees.specs.declared.program.Operation.{Operation}
use Rattle.kn_trees.specs.declared.forest.LinkNode.{LinkNode}
use Rattle.kn_trees.specs.declared.root.Root.{Root}

-- a tree that is there, and its kind
pub record IsRoot (trees : List Expr) (root : Root) : Type 0 where
  pub inside : root.place < length trees
  pub kind : root.kind ≡ kind_of (tree_at trees root.place)

-- the trees at the places of roots
abbrev pub trees_at : List Expr → List Root → List Expr
trees_at trees roots = map (λ root. tree_at trees root.place) roots

-- operations with the places of their right sides
abbrev pub links_to : List Operation → List Root → List LinkNode
links_to signs roots = map (λ pair. record { sign = pair.0; right = pair.1.place }) (zip signs roots)
