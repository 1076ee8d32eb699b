use Rattle.std.proofs.Common.{◌≤◌, ◌-◌, length}
use Rattle.kn_bench.proofs.batching.additions.Given as goal

abbrev pub invariant-items : goal.invariant-items
invariant-items l = length l.items ≤ l.count

abbrev pub decreases-items : goal.decreases-items
decreases-items l = l.count - length l.items
