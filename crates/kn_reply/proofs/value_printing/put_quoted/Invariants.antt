use Rattle.std.proofs.Common.{take}
use Rattle.std.specs.Prelude.{flat_map}
use Rattle.kn_proof.specs.Texts.{quoted_byte}
use Rattle.kn_reply.specs.Gathering.{Puts}
use Rattle.kn_reply.proofs.value_printing.put_quoted.Given as goal

abbrev pub invariant-loop-byte : goal.invariant-loop-byte
invariant-loop-byte g l =
    Puts (flat_map quoted_byte (take l.byte-index l.principal)) l.initial.printer (g.O.Sink.seen l.initial.out)
    l.printer (g.O.Sink.seen l.out)
