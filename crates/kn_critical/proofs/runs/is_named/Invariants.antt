use Rattle.std.proofs.Common.{◌≡◌, false, take}
use Rattle.kn_meaning.specs.Critical.{is_row_by}
use Rattle.kn_critical.proofs.runs.is_named.Given as goal

abbrev pub invariant-loop-row : goal.invariant-loop-row
invariant-loop-row l = is_row_by (take l.row-index l.rows) l.id ≡ false
