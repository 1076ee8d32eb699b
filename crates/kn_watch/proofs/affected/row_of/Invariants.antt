use Rattle.std.proofs.Common.{◌≡◌, ◌-◌, ◌<◌, ◌≤◌}
use Rattle.kn_system.specs.Counts.{IsWithin}
use Rattle.kn_system.specs.Equations.{node_total}
use Rattle.kn_watch.specs.Climbing.{place_of_node, row_of_node}
use Rattle.kn_watch.proofs.affected.row_of.Given as goal

abbrev pub invariant-loop-row : goal.invariant-loop-row
invariant-loop-row g l = record {
  inside : l.at < node_total l.system.rows;
  row : row_of_node l.system.rows l.at ≡ row_of_node l.system.rows l.node;
  place : place_of_node l.system.rows l.at ≤ place_of_node l.system.rows l.node;
  ticks : IsWithin (place_of_node l.system.rows l.node - place_of_node l.system.rows l.at) l.fn.steps l.steps;
}

abbrev pub decreases-loop-row : goal.decreases-loop-row
decreases-loop-row g l = l.at
