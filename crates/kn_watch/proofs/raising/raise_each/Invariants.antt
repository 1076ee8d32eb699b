use Rattle.std.proofs.Common.{ℕ, List, take}
use Rattle.kn_system.specs.Counts.{IsWithin}
use Rattle.kn_system.specs.Lawful.{AreLevels}
use Rattle.kn_watch.specs.Affected.{affected_nodes}
use Rattle.kn_watch.specs.Raising.{AreRaised, HasRisen}
use Rattle.kn_watch.proofs.raising.raise_each.Given as goal

abbrev pub invariant-loop-row : goal.invariant-loop-row
invariant-loop-row g l = record {
  fit : AreLevels l.system l.levels;
  risen : HasRisen l.system l.affected l.row l.fn.levels l.levels l.risen;
  raised : (start : List ℕ) → AreRaised l.system l.affected start l.fn.levels
      → AreRaised l.system l.affected start l.levels;
  ticks : IsWithin (affected_nodes l.affected (take l.row l.system.rows)) l.fn.steps l.steps;
}
