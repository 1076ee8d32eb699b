use Rattle.std.proofs.Common.{length}
use Rattle.kn_proof.specs.Words.{AreRowsTo}
use Rattle.kn_proof.proofs.reader.read_rows.Given as goal

abbrev pub invariant-rows : goal.invariant-rows
invariant-rows l = AreRowsTo l.lines l.rows l.rest

abbrev pub decreases-rows : goal.decreases-rows
decreases-rows l = length l.rest
