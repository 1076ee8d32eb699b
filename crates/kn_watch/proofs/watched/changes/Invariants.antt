use Rattle.std.proofs.Common.{◌≡◌, ◌++◌, drop}
use Rattle.kn_watch.specs.Watched.{changes_from}
use Rattle.kn_watch.proofs.watched.changes.Given as goal

abbrev pub invariant-loop-row : goal.invariant-loop-row
invariant-loop-row g l = l.changed ++ changes_from l.ceilings l.row (drop l.row l.system.rows)
    ≡ changes_from l.ceilings 0 l.system.rows
