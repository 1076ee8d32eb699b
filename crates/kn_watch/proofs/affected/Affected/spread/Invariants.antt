use mathlib.Core.List.{IsPrefix}
use Rattle.std.proofs.Common.{◌≡◌, ◌-◌, Bool, true, List, length}
use Rattle.kn_settle.proofs.VisitedUses.{IsNextUse, uses_left}
use Rattle.kn_watch.specs.Affected.{IsSubset, HasUsers, is_affected, use_count}
use Rattle.kn_watch.specs.Found.{AreFound}
use Rattle.kn_watch.proofs.AffectedSpread.{AreReached, AreUseTicks}
use Rattle.kn_watch.proofs.affected.Affected.spread.Given as goal

abbrev pub invariant-loop-next : goal.invariant-loop-next
invariant-loop-next g l = record {
  size : length l.self.flags.items ≡ length l.system.requesters;
  found : AreFound l.self.flags.items l.self.found;
  front : IsPrefix l.fn.self.found l.self.found;
  next : IsNextUse l.system l.principal l.next;
  reached : AreReached l.system l.principal (uses_left l.system l.principal l.next) l.self.flags.items;
  within : (others : List Bool) → HasUsers l.system others → is_affected others l.principal ≡ true
      → IsSubset l.fn.self.flags.items others → IsSubset l.self.flags.items others;
  ticks : (others : List Bool) → HasUsers l.system others → is_affected others l.principal ≡ true
      → AreUseTicks l.system others (use_count l.system l.principal - uses_left l.system l.principal l.next) l.fn.steps
      l.steps;
}

abbrev pub decreases-loop-next : goal.decreases-loop-next
decreases-loop-next g l = uses_left l.system l.principal l.next
