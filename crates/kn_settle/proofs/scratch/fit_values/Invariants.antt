use Rattle.std.proofs.Common.{◌≡◌, ◌-◌, ◌≤◌, length, replicate}
use Rattle.kn_settle.proofs.scratch.fit_values.Given as goal

abbrev pub invariant-loop-values : goal.invariant-loop-values
invariant-loop-values l = record {
  none : l.values.items ≡ replicate (length l.values.items) 0;
  short : length l.values.items ≤ l.size;
}

abbrev pub decreases-loop-values : goal.decreases-loop-values
decreases-loop-values l = l.size - length l.values.items
