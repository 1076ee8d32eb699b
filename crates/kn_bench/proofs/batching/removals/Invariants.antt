use Rattle.std.proofs.Common.{◌≡◌, length}
use Rattle.kn_bench.proofs.batching.removals.Given as goal

abbrev pub invariant-loop-place : goal.invariant-loop-place
invariant-loop-place l = length l.items ≡ l.place
