use Rattle.std.proofs.Common.{◌-◌, ◌≤◌, take, drop}
use Rattle.std.specs.Prelude.{flat_map}
use Rattle.kn_reply.specs.Gathering.{Puts}
use Rattle.kn_reply.specs.Logs.{update_text}
use Rattle.kn_reply.proofs.log_printing.put_updates.Given as goal

abbrev pub invariant-loop-i : goal.invariant-loop-i
invariant-loop-i g l = record {
  begun : l.from ≤ l.i;
  put : Puts (flat_map update_text (take (l.i - l.from) (drop l.from l.version))) l.initial.printer
      (g.O.Sink.seen l.initial.out) l.printer (g.O.Sink.seen l.out);
}
