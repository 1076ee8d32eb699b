use Rattle.std.proofs.Common.{◌≡◌, length}
use Rattle.kn_settle.specs.Counters.{AreLonger}
use Rattle.kn_settle.specs.Blank.{AreTrailed}
use Rattle.kn_settle.proofs.UsesAtLevels.{VisitsAt}
use Rattle.kn_settle.proofs.VisitedUses.{IsNextUse, uses_left}
use Rattle.kn_settle.proofs.counters.Counters.visit.Given as goal

abbrev pub invariant-loop-next : goal.invariant-loop-next
invariant-loop-next g l = record {
  counts : length l.self.counts.items ≡ length l.fn.self.counts.items;
  buckets : length l.self.buckets.items ≡ length l.fn.self.buckets.items;
  longer : AreLonger l.fn.self.buckets.items l.self.buckets.items;
  trailed : AreTrailed l.fn.self.counts.items l.fn.self.trail → AreTrailed l.self.counts.items l.self.trail;
  next : IsNextUse l.system l.principal l.next;
  visiting : VisitsAt l.system l.value l.principal (uses_left l.system l.principal l.next) l.levels.values.items
      l.fn.self.counts.items l.fn.self.buckets.items l.self.counts.items l.self.buckets.items l.fn.steps l.steps;
}

abbrev pub decreases-loop-next : goal.decreases-loop-next
decreases-loop-next g l = uses_left l.system l.principal l.next
