use Rattle.std.proofs.Common.{◌≡◌, ℕ, ◌-◌, ◌<◌, length, slice_index, slice_index_or, false, if◌then◌else◌}
use Rattle.kn_system.proofs.system.System.first_levels.Given as goal

abbrev pub invariant-loop-principal : goal.invariant-loop-principal
invariant-loop-principal g l = record {
  size : length l.values ≡ length l.self.requesters;
  done : (p : ℕ) → p < l.principal
      → slice_index l.values p ≡ (if slice_index_or l.self.requesters p false then l.self.levels - 1 else 0);
}
