use Rattle.std.proofs.Common.{take}
use Rattle.std.specs.Prelude.{flat_map}
use Rattle.kn_proof.specs.Texts.{row_text}
use Rattle.kn_reply.specs.Gathering.{Puts}
use Rattle.kn_reply.proofs.value_printing.put_rows.Given as goal

abbrev pub invariant-loop-row : goal.invariant-loop-row
invariant-loop-row g l =
    Puts (flat_map row_text (take l.row-index l.row-items)) l.initial.printer (g.O.Sink.seen l.initial.out) l.printer
    (g.O.Sink.seen l.out)
