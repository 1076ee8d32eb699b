-- Nodes that are linked to the use of the same principal before them (keynoted's own).
use Rattle.std.specs.Prelude.{ℕ, zero, suc, ◌≡◌, ◌<◌, List, map, length, take, slice_index_or, Option, None, Some}
use Rattle.kn_system.specs.declared.nodes.Up.{Up}
use Rattle.kn_system.specs.declared.rows.Piece.{Piece}
use Rattle.kn_system.specs.declared.rows.Piece.TheVariants.{Who, Gate}
use Rattle.kn_system.specs.Form.{leaf_count}
use Rattle.kn_system.specs.Nodes.{use_before_at, uses_of}

-- what a node is, what it is a part of, and one more than the use before it, or 0 where there is none
pub record LinkedNode : Type 0 where
  pub piece : Piece
  pub up : Up
  pub before : ℕ

abbrev pub node_pieces : List LinkedNode → List Piece
node_pieces nodes = map (λ (node : LinkedNode). node.piece) nodes

abbrev pub node_ups : List LinkedNode → List Up
node_ups nodes = map (λ (node : LinkedNode). node.up) nodes

-- the node that a number is one more than
abbrev pub node_before : ℕ → Option ℕ
node_before zero = None
node_before (suc n) = Some n

-- the last node that is this principal
abbrev pub last_use_of : ℕ → List Piece → Option ℕ
last_use_of p ps = use_before_at (uses_of p ps) (length (uses_of p ps))

-- the last use of its principal before a piece that stands behind these
abbrev pub last_before : List Piece → Piece → Option ℕ
last_before ps (Who p) = last_use_of p ps
last_before ps (Gate k n) = None

-- each node is linked to the use before it
abbrev pub AreLinked : List LinkedNode → Type 0
AreLinked nodes = (i : ℕ) (d : LinkedNode) → i < length nodes
    → node_before (slice_index_or nodes i d).before
    ≡ last_before (take i (node_pieces nodes)) (slice_index_or nodes i d).piece

-- the number at each principal is one more than its last use, and so many uses there are
pub record AreLastUses (pieces : List Piece) (numbers : List ℕ) (total : ℕ) : Type 0 where
  pub last : (p : ℕ) → node_before (slice_index_or numbers p 0) ≡ last_use_of p pieces
  pub count : total ≡ leaf_count pieces
