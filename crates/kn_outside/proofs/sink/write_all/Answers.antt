use Rattle.std.proofs.Common.{arith}
use Rattle.kn_outside.proofs.PrintLaws.{writes_parts}
use Rattle.kn_outside.proofs.sink.write_all.Goals as goal

pub loop-done-preserved : goal.loop-done-preserved
loop-done-preserved g c = record {
  within = omega (arith, c.split_at.ensures.back_len, c.in_ok-done.ensures.count.1);
  front = writes_parts _ _ _ _ _ _ c.loop-done.invariant.front (rw c.split_at.ensures.back at c.in_ok-done.ensures.ok);
}
