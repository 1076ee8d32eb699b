use Rattle.std.proofs.Common.{take}
use Rattle.std.specs.Prelude.{flat_map}
use Rattle.kn_reply.specs.Gathering.{Puts}
use Rattle.kn_reply.specs.Logs.{change_text}
use Rattle.kn_reply.proofs.log_printing.put_changes.Given as goal

abbrev pub invariant-loop-numbered : goal.invariant-loop-numbered
invariant-loop-numbered g l =
    Puts (flat_map change_text (take l.numbered-index l.numbered-items))
    l.initial.printer (g.O.Sink.seen l.initial.out) l.printer (g.O.Sink.seen l.out)
