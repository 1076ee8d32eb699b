use Rattle.std.proofs.Common.{◌≡◌, take}
use Rattle.kn_check.specs.Reads.{support_nodes}
use Rattle.kn_system.specs.Counts.{IsWithin}
use Rattle.kn_system.specs.Least.{at_first}
use Rattle.kn_system.specs.Lawful.{AreLevels}
use Rattle.kn_system.specs.Proofs.{AreSteps, levels_after}
use Rattle.kn_check.proofs.rows.follow_rows.Given as goal

abbrev pub invariant-loop-number : goal.invariant-loop-number
invariant-loop-number g l = record {
  steps : AreSteps l.system (at_first l.system) (take l.number l.rows);
  after : l.levels ≡ levels_after (at_first l.system) (take l.number l.rows);
  fit : AreLevels l.system l.levels;
  ticks : IsWithin (support_nodes l.system (take l.number l.rows)) l.initial.steps l.steps;
}
