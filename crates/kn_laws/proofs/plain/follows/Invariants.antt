use Rattle.std.proofs.Common.{◌≡◌, drop, map}
use Rattle.kn_meaning.specs.Tables.{statement_in, entries_of}
use Rattle.kn_laws.specs.Tested.{ends_proof}
use Rattle.kn_laws.proofs.plain.follows.Given as goal

abbrev pub invariant-loop-row : goal.invariant-loop-row
invariant-loop-row l =
    ends_proof l.top (map statement_in l.statements) l.table (drop l.row-index l.rows) l.level
    ≡ ends_proof l.top (map statement_in l.statements) (entries_of l.top l.requesters) l.rows l.level
