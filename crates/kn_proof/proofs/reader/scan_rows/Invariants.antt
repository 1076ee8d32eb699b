use Rattle.std.proofs.Common.{◌+◌, ◌≤◌, length}
use Rattle.kn_proof.specs.Words.{AreCountedTo}
use Rattle.kn_proof.proofs.reader.scan_rows.Given as goal

abbrev pub invariant-rows : goal.invariant-rows
invariant-rows l =
    record { scanned : AreCountedTo l.lines l.rows l.rest; few : l.rows + length l.rest ≤ length l.lines }

abbrev pub decreases-rows : goal.decreases-rows
decreases-rows l = length l.rest
