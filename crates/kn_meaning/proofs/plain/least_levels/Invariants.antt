use Rattle.std.proofs.Common.{◌≡◌}
use Rattle.kn_meaning.specs.Tables.{equations_from, table_after, first_table}
use Rattle.kn_meaning.proofs.plain.least_levels.Given as goal

abbrev pub invariant-loop-round : goal.invariant-loop-round
invariant-loop-round l =
    l.table ≡ table_after (equations_from l.top l.requesters l.statements) (first_table l.top l.requesters l.statements)
    l._round
