use Rattle.std.proofs.Common.{◌≡◌, ◌≤◌, length}
use Rattle.kn_system.specs.Equations.{node_total}
use Rattle.kn_system.specs.Settled.{IsSettled, count_unsettled}
use Rattle.kn_settle.specs.Counters.{bucket_at}
use Rattle.kn_settle.proofs.BucketSettling.{ArePassed, Continues}
use Rattle.kn_settle.specs.Blank.{AreTrailed}
use Rattle.kn_settle.proofs.settling.settle_level.Given as goal

abbrev pub invariant-loop-row : goal.invariant-loop-row
invariant-loop-row g l = record {
  settled : IsSettled l.system l.value l.levels.values.items l.rows;
  one_each : length l.levels.values.items ≡ length l.initial.levels.values.items;
  counts : length l.counters.counts.items ≡ length l.initial.counters.counts.items;
  nodes : length l.counters.counts.items ≡ node_total l.system.rows;
  buckets : length l.counters.buckets.items ≡ length l.initial.counters.buckets.items;
  levels : length l.counters.buckets.items ≡ l.system.levels;
  reached : AreTrailed l.initial.levels.values.items l.initial.levels.trail
      → AreTrailed l.levels.values.items l.levels.trail;
  counted : AreTrailed l.initial.counters.counts.items l.initial.counters.trail
      → AreTrailed l.counters.counts.items l.counters.trail;
  within : l.at ≤ length (bucket_at l.counters.buckets.items l.value);
  passed : ArePassed l.system l.levels.values.items (bucket_at l.counters.buckets.items l.value) l.at;
  continues : Continues l.system l.value l.initial.levels.values.items l.initial.counters.counts.items
      l.initial.counters.buckets.items l.initial.steps l.levels.values.items l.counters.counts.items
      l.counters.buckets.items l.steps;
}

abbrev pub decreases-loop-row : goal.decreases-loop-row
decreases-loop-row g l = count_unsettled l.levels.values.items
