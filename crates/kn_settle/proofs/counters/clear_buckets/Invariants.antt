use Rattle.std.proofs.Common.{◌≡◌, [], ℕ, ◌<◌, length, slice_index_or}
use Rattle.kn_settle.proofs.counters.clear_buckets.Given as goal

abbrev pub invariant-loop-level : goal.invariant-loop-level
invariant-loop-level l = record {
  size : length l.buckets.items ≡ length l.fn.buckets.items;
  done : (k : ℕ) → k < l.level → slice_index_or l.buckets.items k [] ≡ [];
}
