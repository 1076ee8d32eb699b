-- What a forest is once texts, lists of parts and operations are added to it.
use Rattle.std.proofs.Common.{◌≡◌, ℕ, ◌+◌, ◌<◌, ◌^◌, List, [], ◌∷◌, ◌++◌, length, map, Result, Ok, Err, refl, sym, ap}
use Rattle.std.proofs.Common.{subst, ◌∙◌, arith, length-append}
use mathlib.Core.List.{map-map}
use Rattle.std.specs.Prelude.{IsErrAnd}
use Rattle.std.specs.List.{All}
use Rattle.std.proofs.lemmas.List.{append-nil}
use Rattle.std.proofs.lemmas.List.Elements.{All-cons, All-head, All-map, All-nil, All-tail}
use Rattle.kn_base.specs.declared.span.Span.{Span}
use Rattle.kn_trees.specs.Forms.{link, links_of}
use Rattle.kn_trees.specs.Forests.{Pools, pools, run, tree_at, link_at, tree_of, trees_of, IsWithin, IsPlaced, AreShort}
use Rattle.kn_trees.specs.Forests.{IsForest, IsAdded}
use Rattle.kn_trees.specs.Roots.{IsRoot, trees_at, links_to}
use Rattle.kn_trees.specs.Signs.{join_expressions, leaf_of}
use Rattle.kn_trees.specs.declared.program.Expr.{Expr}
use Rattle.kn_trees.specs.declared.program.Expr.TheVariants as E
use Rattle.kn_trees.specs.declared.program.Operation.{Operation}
use Rattle.kn_trees.specs.declared.forest.LinkNode.{LinkNode}
use Rattle.kn_trees.specs.declared.forest.Node.{Node}
use Rattle.kn_trees.specs.declared.forest.Node.TheVariants as N
use Rattle.kn_trees.specs.declared.root.Root.{Root}
use Rattle.kn_trees.specs.declared.signs.Joint.{Joint}
use Rattle.kn_trees.specs.declared.signs.Leaf.{Leaf}
use Rattle.kn_trees.proofs.Forests.{AreGrown, run-added, length-trees_of, IsForest-grown, trees_of-grown, IsForest-push}
use Rattle.kn_trees.proofs.Forests.{trees_of-push}

-- what is told where trees stay
pub not_added : {E : Type 0} (P : E → Type 0) (old : List Expr) (tree : Expr) (new : List Expr) (r : Result ℕ E)
    → IsErrAnd r P → new ≡ old → IsAdded old tree new r
not_added P old tree new (Ok place) failed same = absurd failed
not_added P old tree new (Err error) failed same = record { place = tt; ok = tt; err = same }

-- pools that have grown, and a node
module _ (old new : Pools) (nodes : List Node) (grown : AreGrown old new) (forest : IsForest old nodes) where
  trees_of-kept : (after : List Node) → after ≡ nodes → trees_of new after ≡ trees_of old nodes
  trees_of-kept after same = ap (trees_of new) same ∙ trees_of-grown old new nodes grown forest

  module _ (node : Node) (after : List Node) (pushed : after ≡ nodes ++ node ∷ []) where
    IsForest-grown_push : AreShort new → IsPlaced new (length nodes) node → IsForest new after
    IsForest-grown_push short here =
        let kept = IsForest-grown old new nodes grown short forest in
        subst (IsForest new) (sym pushed) (IsForest-push new nodes node kept here)

    trees_of-grown_push : (tree : Expr) → tree_of new (trees_of old nodes) node ≡ tree
        → trees_of new after ≡ trees_of old nodes ++ tree ∷ []
    trees_of-grown_push tree same =
        ap (trees_of new) pushed ∙ trees_of-push new nodes node
        ∙ ap (λ trees. trees ++ tree_of new trees node ∷ []) (trees_of-grown old new nodes grown forest)
        ∙ ap (λ t. trees_of old nodes ++ t ∷ []) same

-- a span is behind a list, and has so many items
abbrev IsNext : {X Y : Type 0} → List X → List Y → Span → Type 0
IsNext pool more span = (span.start ≡ length pool) × (span.end ≡ length pool + length more)

-- what a pool grew by is the run of its span
module _ {X : Type 0} (old more new : List X) (span : Span) (grown : new ≡ old ++ more) (next : IsNext old more span)
  where
    IsWithin-new : IsWithin (length new) span
    IsWithin-new =
        let longer : length new ≡ length old + length more = ap length grown ∙ length-append old more in
        record { ordered = omega (arith, next.0, next.1); inside = omega (arith, next.1) }

    run-new : run new span ≡ more
    run-new = ap (λ pool. run pool span) grown
        ∙ run-added old more span.start span.end next.0 (omega (arith, next.0, next.1))

abbrev places_of : List Root → List ℕ
places_of roots = map (λ root. root.place) roots

-- operations whose right sides are trees that are there
module _ (trees : List Expr) where
  links-links_to : (signs : List Operation) (roots : List Root)
      → map (link_at trees) (links_to signs roots) ≡ links_of signs (trees_at trees roots)
  links-links_to [] roots = refl
  links-links_to (sign ∷ signs) [] = refl
  links-links_to (sign ∷ signs) (root ∷ roots) =
      ap (λ ls. link sign (tree_at trees root.place) ∷ ls) (links-links_to signs roots)

  module _ (count : ℕ) (all : length trees ≡ count) where
    rights_below : (signs : List Operation) (roots : List Root) → All (IsRoot trees) roots
        → All (λ l. l.right < count) (links_to signs roots)
    rights_below [] roots here = All-nil (λ l. l.right < count)
    rights_below (sign ∷ signs) [] here = All-nil (λ l. l.right < count)
    rights_below (sign ∷ signs) (root ∷ roots) here =
        let first : root.place < count = omega (arith, (All-head (IsRoot trees) root roots here).inside) in
        All-cons (λ l. l.right < count) (record { sign = sign; right = root.place }) (links_to signs roots) first
        (rights_below signs roots (All-tail (IsRoot trees) root roots here))

    places_below : (roots : List Root) → All (IsRoot trees) roots → All (λ part. part < count) (places_of roots)
    places_below roots here =
        All-map (λ part. part < count) (λ (root : Root). root.place) roots (λ k d h. omega (arith, (here k d h).inside))

module _ (parts : List ℕ) (links : List LinkNode) (bytes : List ℕ) (nodes : List Node) where
  abbrev old : Pools
  old = pools parts links bytes

  abbrev trees : List Expr
  trees = trees_of old nodes

  -- bytes that are added
  module _ (forest : IsForest old nodes) (more pool : List ℕ) (grown : pool ≡ bytes ++ more) (after : List Node) where
    bytes_grown : AreGrown old (pools parts links pool)
    bytes_grown = record {
      parts = ([], sym (append-nil parts));
      links = ([], sym (append-nil links));
      bytes =
          (more, grown);
    }

    pub trees-bytes_kept : after ≡ nodes → trees_of (pools parts links pool) after ≡ trees
    trees-bytes_kept same = trees_of-kept old (pools parts links pool) nodes bytes_grown forest after same

    module _ (span : Span) (next : IsNext bytes more span) where
      text_is : run pool span ≡ more
      text_is = run-new bytes more pool span grown next

      -- the node of a text or a name
      module _ (leaf : Leaf) (node : Node) (pushed : after ≡ nodes ++ node ∷ []) where
        pub trees-leaf : tree_of (pools parts links pool) trees node ≡ leaf_of leaf (run pool span)
            → trees_of (pools parts links pool) after ≡ trees ++ leaf_of leaf more ∷ []
        trees-leaf is =
            trees_of-grown_push old (pools parts links pool) nodes bytes_grown forest node after pushed
            (leaf_of leaf more)
            (is ∙ ap (leaf_of leaf) text_is)

        pub forest-leaf : length pool < 2 ^ 32
            → ((ps : Pools) (place : ℕ) → IsWithin (length ps.bytes) span → IsPlaced ps place node)
            → IsForest (pools parts links pool) after
        forest-leaf short here =
            IsForest-grown_push old (pools parts links pool) nodes bytes_grown forest node after pushed
            (record { parts = forest.short.parts; links = forest.short.links; bytes = short })
            (here (pools parts links pool) (length nodes) (IsWithin-new bytes more pool span grown next))

  -- parts that are added
  module _ (forest : IsForest old nodes) (roots : List Root) (pool : List ℕ) (grown : pool ≡ parts ++ places_of roots)
      (after : List Node) where
    parts_grown : AreGrown old (pools pool links bytes)
    parts_grown = record {
      parts = (places_of roots, grown);
      links = ([], sym (append-nil links));
      bytes =
          ([], sym (append-nil bytes));
    }

    pub trees-parts_kept : after ≡ nodes → trees_of (pools pool links bytes) after ≡ trees
    trees-parts_kept same = trees_of-kept old (pools pool links bytes) nodes parts_grown forest after same

    module _ (span : Span) (next : IsNext parts (places_of roots) span) where
      places_are : run pool span ≡ places_of roots
      places_are = run-new parts (places_of roots) pool span grown next

      parts_are : map (tree_at trees) (run pool span) ≡ trees_at trees roots
      parts_are = ap (map (tree_at trees)) places_are ∙ map-map (tree_at trees) (λ (root : Root). root.place) roots

      pub trees-joined : (joint : Joint) (node : Node) → after ≡ nodes ++ node ∷ []
          → tree_of (pools pool links bytes) trees node ≡ join_expressions joint (map (tree_at trees) (run pool span))
          → trees_of (pools pool links bytes) after ≡ trees ++ join_expressions joint (trees_at trees roots) ∷ []
      trees-joined joint node pushed is =
          trees_of-grown_push old (pools pool links bytes) nodes parts_grown forest node after pushed
          (join_expressions joint (trees_at trees roots))
          (is ∙ ap (join_expressions joint) parts_are)

      module _ (short : length pool < 2 ^ 32) (here : All (IsRoot trees) roots) where
        parts_short : AreShort (pools pool links bytes)
        parts_short = record { parts = short; links = forest.short.links; bytes = forest.short.bytes }

        parts_placed : IsWithin (length pool) span × All (λ part. part < length nodes) (run pool span)
        parts_placed =
            let below = places_below trees (length nodes) (length-trees_of old nodes) roots here in (
              IsWithin-new parts (places_of roots) pool span grown next,
              subst (All (λ part. part < length nodes)) (sym places_are) below,
            )

        pub forest-joined : (node : Node) → after ≡ nodes ++ node ∷ []
            → ((ps : Pools) (place : ℕ) → IsWithin (length ps.parts) span
            → All (λ part. part < place) (run ps.parts span) → IsPlaced ps place node)
            → IsForest (pools pool links bytes) after
        forest-joined node pushed placed =
            IsForest-grown_push old (pools pool links bytes) nodes parts_grown forest node after pushed parts_short
            (placed (pools pool links bytes) (length nodes) parts_placed.0 parts_placed.1)

  -- operations that are added
  module _ (forest : IsForest old nodes) (signs : List Operation) (roots : List Root) (pool : List LinkNode)
      (grown : pool ≡ links ++ links_to signs roots) (after : List Node) where
    links_grown : AreGrown old (pools parts pool bytes)
    links_grown = record {
      parts = ([], sym (append-nil parts));
      links = (links_to signs roots, grown);
      bytes =
          ([], sym (append-nil bytes));
    }

    pub trees-links_kept : after ≡ nodes → trees_of (pools parts pool bytes) after ≡ trees
    trees-links_kept same = trees_of-kept old (pools parts pool bytes) nodes links_grown forest after same

    module _ (span : Span) (next : IsNext links (links_to signs roots) span) (first : ℕ)
        (pushed : after ≡ nodes ++ N.Chain first span ∷ []) where
      links_are : run pool span ≡ links_to signs roots
      links_are = run-new links (links_to signs roots) pool span grown next

      abbrev chain : Expr
      chain = E.Chain (tree_at trees first) (links_of signs (trees_at trees roots))

      pub trees-chain : trees_of (pools parts pool bytes) after ≡ trees ++ chain ∷ []
      trees-chain =
          let rest = ap (map (link_at trees)) links_are ∙ links-links_to trees signs roots in
          trees_of-grown_push old (pools parts pool bytes) nodes links_grown forest (N.Chain first span) after pushed
          chain
          (ap (E.Chain (tree_at trees first)) rest)

      pub forest-chain : length pool < 2 ^ 32 → All (IsRoot trees) roots → first < length trees
          → IsForest (pools parts pool bytes) after
      forest-chain short here inside =
          let all : length trees ≡ length nodes = length-trees_of old nodes in
          let ordered : first < length nodes = omega arith in
          let within = IsWithin-new links (links_to signs roots) pool span grown next in
          let below = rights_below trees (length nodes) all signs roots here in
          IsForest-grown_push old (pools parts pool bytes) nodes links_grown forest (N.Chain first span) after pushed
          (record { parts = forest.short.parts; links = short; bytes = forest.short.bytes })
          (ordered, within, subst (All (λ l. l.right < length nodes)) (sym links_are) below)
