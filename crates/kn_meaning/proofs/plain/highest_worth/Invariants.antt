use Rattle.std.proofs.Common.{◌≡◌, drop, map, max}
use Rattle.kn_meaning.specs.Tables.{level_in, statement_in}
use Rattle.kn_meaning.specs.Equations.{highest_worth}
use Rattle.kn_meaning.proofs.plain.highest_worth.Given as goal

abbrev pub invariant-loop-stated : goal.invariant-loop-stated
invariant-loop-stated l =
    max l.best (highest_worth l.top (level_in l.table) l.name (map statement_in (drop l.stated-index l.statements)))
    ≡ highest_worth l.top (level_in l.table) l.name (map statement_in l.statements)
