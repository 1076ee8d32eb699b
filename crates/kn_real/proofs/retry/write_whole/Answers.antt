use Rattle.std.proofs.Common.{arith}
use Rattle.std.proofs.lemmas.List.{take_all}
use Rattle.kn_real.proofs.Written.{write_part}
use Rattle.kn_real.proofs.retry.write_whole.Goals as goal

pub loop-done-preserved : goal.loop-done-preserved
loop-done-preserved g c = record {
  within = omega (arith, c.split_at.ensures.back_len, c.in-Ok.ensures.bound);
  front = write_part _ _ _ _ _ _ c.loop-done.invariant.front (rw c.split_at.ensures.back at c.in-Ok.ensures.bytes);
}

pub returns-clause-whole : goal.returns-clause-whole
returns-clause-whole g c = rw (take_all c.loop-done.done c.args.piece.now (omega arith)) at c.loop-done.invariant.front
