use Rattle.std.proofs.Common.{◌≡◌, ◌≤◌}
use Rattle.kn_critical.specs.Searching.{IsRowCritical, IsWhole}
use Rattle.kn_critical.proofs.runs.clear_rows.Given as goal

abbrev pub invariant-loop-count : goal.invariant-loop-count
invariant-loop-count g l = record {
  within : l.count ≤ l.limit;
  whole : IsWhole l.question.query.now l.question.list.now l.base;
  critical : l.count ≡ 0 → IsRowCritical l.question.query.now l.question.list.now l.row;
}

abbrev pub decreases-loop-count : goal.decreases-loop-count
decreases-loop-count g l = l.count
