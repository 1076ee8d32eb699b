use Rattle.std.proofs.Common.{◌≡◌, length, take}
use Rattle.kn_settle.proofs.BucketSettling.{Continues}
use Rattle.kn_settle.specs.Blank.{AreTrailed}
use Rattle.kn_settle.specs.FirstLevels.{AreBegun}
use Rattle.kn_settle.proofs.settling.reach_requesters.Given as goal

abbrev pub invariant-loop-place : goal.invariant-loop-place
invariant-loop-place g l = record {
  begun : AreBegun l.system l.levels.values.items (take l.place l.requesters);
  one_each : length l.levels.values.items ≡ length l.initial.levels.values.items;
  counts : length l.counters.counts.items ≡ length l.initial.counters.counts.items;
  buckets : length l.counters.buckets.items ≡ length l.initial.counters.buckets.items;
  reached : AreTrailed l.initial.levels.values.items l.initial.levels.trail
      → AreTrailed l.levels.values.items l.levels.trail;
  counted : AreTrailed l.initial.counters.counts.items l.initial.counters.trail
      → AreTrailed l.counters.counts.items l.counters.trail;
  continues : Continues l.system l.top l.initial.levels.values.items l.initial.counters.counts.items
      l.initial.counters.buckets.items l.initial.steps l.levels.values.items l.counters.counts.items
      l.counters.buckets.items l.steps;
}
