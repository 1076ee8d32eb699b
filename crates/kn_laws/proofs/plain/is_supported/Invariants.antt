use Rattle.std.proofs.Common.{◌≡◌, drop, map}
use Rattle.std.specs.List.{list_any}
use Rattle.kn_meaning.specs.Tables.{level_in, statement_in}
use Rattle.kn_laws.specs.Tested.{supports}
use Rattle.kn_laws.proofs.plain.is_supported.Given as goal

abbrev pub invariant-loop-stated : goal.invariant-loop-stated
invariant-loop-stated l =
    list_any (supports l.top (level_in l.table) l.row) (map statement_in (drop l.stated-index l.statements))
    ≡ list_any (supports l.top (level_in l.table) l.row) (map statement_in l.statements)
