use Rattle.std.proofs.Common.{◌≡◌}
use Rattle.kn_critical.specs.Searching.{flags_with}
use Rattle.kn_critical.proofs.runs.restore_run.Given as goal

abbrev pub invariant-loop-row : goal.invariant-loop-row
invariant-loop-row l = l.base ≡ record l.fn.base { live = flags_with l.fn.base.live l.start l.row }
