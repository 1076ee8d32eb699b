use Rattle.std.proofs.Common.{◌≡◌, length}
use Rattle.kn_system.specs.Equations.{node_total}
use Rattle.kn_settle.specs.Counters.{FitsBelow}
use Rattle.kn_settle.proofs.GateClimbs.{GoesOn, up_rank}
use Rattle.kn_settle.specs.Blank.{AreTrailed}
use Rattle.kn_settle.proofs.counters.Counters.climb.Given as goal

abbrev pub invariant-loop-up : goal.invariant-loop-up
invariant-loop-up g l = record {
  fits : FitsBelow l.system (node_total l.system.rows) l.up;
  counts : length l.self.counts.items ≡ length l.fn.self.counts.items;
  buckets : l.self.buckets.items ≡ l.fn.self.buckets.items;
  trailed : AreTrailed l.fn.self.counts.items l.fn.self.trail → AreTrailed l.self.counts.items l.self.trail;
  climbing : GoesOn l.system l.value l.node l.fn.self.counts.items l.fn.self.buckets.items l.up l.self.counts.items
      l.self.buckets.items l.fn.steps l.steps;
}

abbrev pub decreases-loop-up : goal.decreases-loop-up
decreases-loop-up g l = up_rank l.up
