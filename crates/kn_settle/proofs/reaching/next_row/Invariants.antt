use Rattle.std.proofs.Common.{◌≡◌, ◌-◌, ◌<◌, ◌≤◌, ℕ, Some, length, slice_get, slice_index}
use Rattle.kn_system.specs.Equations.{row_at}
use Rattle.kn_settle.proofs.reaching.next_row.Given as goal

abbrev pub invariant-loop-at : goal.invariant-loop-at
invariant-loop-at g l = record {
  further : l.initial.at ≤ l.at;
  within : l.at ≤ length l.bucket;
  passed : (i r : ℕ) → l.initial.at ≤ i → i < l.at → slice_get l.bucket i ≡ Some r
      → 0 < slice_index l.levels.values.items (row_at l.system.rows r).authorizer;
}

abbrev pub decreases-loop-at : goal.decreases-loop-at
decreases-loop-at g l = length l.bucket - l.at
