use Rattle.std.proofs.Common.{◌≡◌, ◌-◌, ◌≤◌, [], length, replicate}
use Rattle.kn_settle.proofs.scratch.fit_buckets.Given as goal

abbrev pub invariant-loop-alloc : goal.invariant-loop-alloc
invariant-loop-alloc l = record {
  none : l.buckets.items ≡ replicate (length l.buckets.items) [];
  short : length l.buckets.items ≤ l.size;
}

abbrev pub decreases-loop-alloc : goal.decreases-loop-alloc
decreases-loop-alloc l = l.size - length l.buckets.items
