use Rattle.std.proofs.Common.{◌≡◌, ◌++◌, drop}
use Rattle.kn_meaning.specs.Tables.{entries_of}
use Rattle.kn_laws.proofs.plain.requester_levels.Given as goal

abbrev pub invariant-loop-requester : goal.invariant-loop-requester
invariant-loop-requester l = l.table ++ entries_of l.top (drop l.requester-index l.requesters)
    ≡ entries_of l.top l.requesters
