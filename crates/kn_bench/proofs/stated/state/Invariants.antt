use Rattle.std.proofs.Common.{◌≡◌, All, length}
use Rattle.kn_bench.specs.Rows.{IsStated}
use Rattle.kn_bench.proofs.stated.state.Given as goal

abbrev pub invariant-loop-place : goal.invariant-loop-place
invariant-loop-place l = record {
  size : length l.rows.items ≡ l.place;
  stated : All (IsStated l.size) l.rows.items;
}
