use Rattle.std.proofs.Common.{◌≡◌, ◌++◌, flat_map, length}
use Rattle.kn_proof.specs.Texts.{quoted_byte}
use Rattle.kn_proof.specs.Lines.{AreBytes}
use Rattle.kn_proof.proofs.quoted.read_quoted.Given as goal

abbrev pub invariant-bytes : goal.invariant-bytes
invariant-bytes l =
    record { spelled : l.text ≡ flat_map quoted_byte l.principal ++ l.rest; bytes : AreBytes l.principal }

abbrev pub decreases-bytes : goal.decreases-bytes
decreases-bytes l = length l.rest
