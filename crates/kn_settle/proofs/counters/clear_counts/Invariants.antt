use Rattle.std.proofs.Common.{◌≡◌, length}
use Rattle.kn_settle.specs.Blank.{AreTrailed}
use Rattle.kn_settle.proofs.counters.clear_counts.Given as goal

abbrev pub invariant-loop-gate : goal.invariant-loop-gate
invariant-loop-gate l = record {
  size : length l.counts.items ≡ length l.fn.counts.items;
  trailed : AreTrailed l.counts.items l.trail;
}

abbrev pub decreases-loop-gate : goal.decreases-loop-gate
decreases-loop-gate l = length l.trail
