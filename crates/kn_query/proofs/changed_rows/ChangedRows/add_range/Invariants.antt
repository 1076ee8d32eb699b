use Rattle.std.proofs.Common.{ℕ, ◌<◌, ◌≤◌}
use Rattle.kn_query.specs.ChangedRows.{AreBelow, HasRow}
use Rattle.kn_query.proofs.changed_rows.ChangedRows.add_range.Given as goal

abbrev pub invariant-loop-row : goal.invariant-loop-row
invariant-loop-row l = record {
  has : (row : ℕ) → l.first ≤ row → row < l.row → HasRow l.self row;
  keeps : (other : ℕ) → HasRow l.fn.self other → HasRow l.self other;
  below : (count : ℕ) → l.end ≤ count → AreBelow count l.fn.self → AreBelow count l.self;
}
