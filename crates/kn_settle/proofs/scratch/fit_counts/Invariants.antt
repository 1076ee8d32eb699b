use Rattle.std.proofs.Common.{◌≡◌, ◌-◌, ◌≤◌, length, replicate}
use Rattle.kn_settle.proofs.scratch.fit_counts.Given as goal

abbrev pub invariant-loop-counts : goal.invariant-loop-counts
invariant-loop-counts l = record {
  none : l.counts.items ≡ replicate (length l.counts.items) 0;
  short : length l.counts.items ≤ l.size;
}

abbrev pub decreases-loop-counts : goal.decreases-loop-counts
decreases-loop-counts l = l.size - length l.counts.items
