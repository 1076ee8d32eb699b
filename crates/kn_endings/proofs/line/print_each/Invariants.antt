use Rattle.std.proofs.Common.{take, true}
use Rattle.std.specs.Prelude.{flat_map}
use Rattle.kn_outside.specs.Printing.{Writes}
use Rattle.kn_endings.proofs.line.print_each.Given as goal

abbrev pub invariant-loop-text : goal.invariant-loop-text
invariant-loop-text g l =
    Writes true (flat_map (λ t. t.now) (take l.text-index l.texts)) (g.O.Sink.seen l.fn.out) (g.O.Sink.seen l.out)
