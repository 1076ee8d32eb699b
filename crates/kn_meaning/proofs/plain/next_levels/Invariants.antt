use Rattle.std.proofs.Common.{◌≡◌, take}
use Rattle.kn_meaning.specs.Tables.{equations_from, next_levels_of}
use Rattle.kn_meaning.proofs.plain.next_levels.Given as goal

abbrev pub invariant-loop-entry : goal.invariant-loop-entry
invariant-loop-entry l =
    l.next ≡ next_levels_of (equations_from l.top l.requesters l.statements) l.table (take l.entry-index l.table)
