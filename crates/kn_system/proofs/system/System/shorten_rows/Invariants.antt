use Rattle.std.proofs.Common.{◌≡◌, ◌+◌, length, take}
use Rattle.kn_system.proofs.system.System.shorten_rows.Given as goal

abbrev pub invariant-loop-row : goal.invariant-loop-row
invariant-loop-row g l = record {
  size : length l.self.rows + l._row ≡ l.rows + length l.initial.self.rows;
  same : l.self ≡ record l.initial.self { rows = take (length l.self.rows) l.initial.self.rows };
}
