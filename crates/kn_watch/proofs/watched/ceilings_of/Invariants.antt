use Rattle.std.proofs.Common.{◌≡◌, ◌<◌, ℕ, length, slice_index}
use Rattle.kn_system.specs.Equations.{row_at}
use Rattle.kn_watch.proofs.watched.ceilings_of.Given as goal

abbrev pub invariant-loop-row : goal.invariant-loop-row
invariant-loop-row g l = record {
  size : length l.ceilings ≡ l.row;
  each : (i : ℕ) → i < l.row → slice_index l.ceilings i ≡ (row_at l.system.rows i).ceiling;
}
