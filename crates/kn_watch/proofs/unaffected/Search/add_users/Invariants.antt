use mathlib.Core.List.{IsPrefix}
use Rattle.std.proofs.Common.{◌≡◌, ◌-◌, Bool, true, List}
use Rattle.kn_settle.proofs.VisitedUses.{IsNextUse, uses_left}
use Rattle.kn_watch.specs.Affected.{IsSubset, HasUsers, is_affected, use_count}
use Rattle.kn_watch.specs.Found.{AreFewFound, flags_of}
use Rattle.kn_watch.proofs.AffectedSpread.{AreReached, AreUseTicks}
use Rattle.kn_watch.proofs.unaffected.Search.add_users.Given as goal

abbrev pub invariant-loop-next : goal.invariant-loop-next
invariant-loop-next g l = record {
  found : AreFewFound l.system l.self.without l.self.most l.found;
  front : IsPrefix l.fn.found l.found;
  next : IsNextUse l.system l.principal l.next;
  reached : AreReached l.system l.principal (uses_left l.system l.principal l.next) (flags_of l.system l.found);
  within : (others : List Bool) → HasUsers l.system others → is_affected others l.principal ≡ true
      → IsSubset (flags_of l.system l.fn.found) others → IsSubset (flags_of l.system l.found) others;
  ticks : (others : List Bool) → HasUsers l.system others → is_affected others l.principal ≡ true
      → AreUseTicks l.system others (use_count l.system l.principal - uses_left l.system l.principal l.next) l.fn.steps
      l.steps;
}

abbrev pub decreases-loop-next : goal.decreases-loop-next
decreases-loop-next g l = uses_left l.system l.principal l.next
