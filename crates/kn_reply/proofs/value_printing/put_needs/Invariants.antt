use Rattle.std.proofs.Common.{take}
use Rattle.std.specs.Prelude.{flat_map}
use Rattle.kn_reply.specs.Gathering.{Puts}
use Rattle.kn_reply.specs.Replies.{need_text}
use Rattle.kn_reply.proofs.value_printing.put_needs.Given as goal

abbrev pub invariant-loop-id : goal.invariant-loop-id
invariant-loop-id g l =
    Puts (flat_map need_text (take l.id-index l.id-items))
    l.initial.printer (g.O.Sink.seen l.initial.out) l.printer (g.O.Sink.seen l.out)
