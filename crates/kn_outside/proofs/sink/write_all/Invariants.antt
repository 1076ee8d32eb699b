use Rattle.std.proofs.Common.{length, ◌-◌, ◌≤◌, take, true}
use Rattle.kn_outside.specs.Printing.{Writes}
use Rattle.kn_outside.proofs.sink.write_all.Given as goal

abbrev pub invariant-loop-done : goal.invariant-loop-done
invariant-loop-done g l =
    record {
      within : l.done ≤ length l.piece;
      front : Writes true (take l.done l.piece) (g.S.Sink.seen l.initial.sink) (g.S.Sink.seen l.sink);
    }

abbrev pub decreases-loop-done : goal.decreases-loop-done
decreases-loop-done g l = length l.piece - l.done
