-- How a node is stored in three numbers (keynoted's own).
use Rattle.std.specs.Prelude.{ℕ, ◌-◌, ◌^◌, leb, if◌then◌else◌}
use Rattle.kn_system.specs.declared.nodes.Up.{Up}
use Rattle.kn_system.specs.declared.nodes.Up.TheVariants.{Node, Row}
use Rattle.kn_system.specs.declared.rows.Piece.TheVariants.{Who, Gate}
use Rattle.kn_system.specs.declared.stored_node.StoredNode.TheInside.{Inside}
use Rattle.kn_system.specs.LinkedNodes.{LinkedNode}

-- what a node is a part of, without whether it is a gate or a row
abbrev pub number_of_up : Up → ℕ
number_of_up (Node i) = i
number_of_up (Row r) = r

-- what a number says that a node is a part of
abbrev pub up_in : ℕ → Up
up_in n = if leb (2 ^ 30) n then Row (n - 2 ^ 30) else Node n

-- the node that three numbers say
abbrev pub linked_node : Inside → LinkedNode
linked_node n =
    if leb (2 ^ 31) n.up then record {
      piece = Gate n.principal_or_need n.before_or_count;
      up = up_in (n.up - 2 ^ 31);
      before = 0;
    } else record { piece = Who n.principal_or_need; up = up_in n.up; before = n.before_or_count }
