use Rattle.std.proofs.Common.{◌≡◌}
use Rattle.kn_critical.specs.Searching.{flags_without}
use Rattle.kn_critical.proofs.runs.remove_run.Given as goal

abbrev pub invariant-loop-row : goal.invariant-loop-row
invariant-loop-row l = l.base ≡ record l.fn.base { live = flags_without l.rows l.list l.start l.row }
