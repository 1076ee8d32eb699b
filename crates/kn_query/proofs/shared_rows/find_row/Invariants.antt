use Rattle.std.proofs.Common.{◌≡◌, ◌-◌, ◌<◌, ◌≤◌, ℕ, length, map, Some}
use Rattle.std.specs.Prelude.{slice_get}
use Rattle.kn_query.proofs.shared_rows.find_row.Given as goal

abbrev pub invariant-loop-low : goal.invariant-loop-low
invariant-loop-low l = record {
  in_range : l.high ≤ length l.rows;
  within : (i : ℕ) → slice_get (map (λ c. c.id) l.rows) i ≡ Some l.id → (l.low ≤ i) × (i < l.high);
}

abbrev pub decreases-loop-low : goal.decreases-loop-low
decreases-loop-low l = l.high - l.low
