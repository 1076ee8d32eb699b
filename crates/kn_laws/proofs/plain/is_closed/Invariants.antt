use Rattle.std.proofs.Common.{◌≡◌, drop, map}
use Rattle.kn_meaning.specs.Tables.{statement_in}
use Rattle.kn_laws.specs.Tested.{is_closed}
use Rattle.kn_laws.proofs.plain.is_closed.Given as goal

abbrev pub invariant-loop-stated : goal.invariant-loop-stated
invariant-loop-stated l = is_closed l.top (map statement_in (drop l.stated-index l.statements)) l.table
    ≡ is_closed l.top (map statement_in l.statements) l.table
