use Rattle.std.proofs.Common.{length}
use Rattle.kn_proof.specs.Quoting.{IsQuotedTo}
use Rattle.kn_proof.proofs.quoted.behind_quoted.Given as goal

abbrev pub invariant-bytes : goal.invariant-bytes
invariant-bytes l = IsQuotedTo l.text l.rest

abbrev pub decreases-bytes : goal.decreases-bytes
decreases-bytes l = length l.rest
