use Rattle.std.proofs.Common.{◌≡◌, ◌<◌, Bool, List, length}
use Rattle.kn_system.specs.Equations.{node_total}
use Rattle.kn_system.specs.Settled.{IsSettled}
use Rattle.kn_settle.specs.Counters.{IsCounting, IsUsed}
use Rattle.kn_settle.specs.Blank.{AreTrailed}
use Rattle.kn_settle.proofs.settling.settle_in.Given as goal

abbrev pub invariant-loop-value : goal.invariant-loop-value
invariant-loop-value g l = record {
  top : l.value < l.system.levels;
  settled : IsSettled l.system l.value l.levels.values.items l.rows;
  reached : AreTrailed l.levels.values.items l.levels.trail;
  counted : AreTrailed l.counters.counts.items l.counters.trail;
  counts : length l.counters.counts.items ≡ node_total l.system.rows;
  buckets : length l.counters.buckets.items ≡ l.system.levels;
  marked : (marks : List Bool) × IsUsed l.system marks l.levels.values.items l.fn.steps l.steps
      × IsCounting l.system l.value l.levels.values.items marks l.counters.counts.items l.counters.buckets.items;
}

abbrev pub decreases-loop-value : goal.decreases-loop-value
decreases-loop-value g l = l.value
