use Rattle.std.proofs.Common.{◌≡◌, ◌++◌, drop}
use Rattle.kn_meaning.specs.Tables.{entries_of, authorizers_of, first_table}
use Rattle.kn_meaning.proofs.plain.first_levels.Given as goal

abbrev pub invariant-loop-requester : goal.invariant-loop-requester
invariant-loop-requester l = l.table ++ entries_of l.top (drop l.requester-index l.requesters)
    ≡ entries_of l.top l.requesters

abbrev pub invariant-loop-stated : goal.invariant-loop-stated
invariant-loop-stated l = l.table ++ authorizers_of (drop l.stated-index l.statements)
    ≡ first_table l.top l.requesters l.statements
