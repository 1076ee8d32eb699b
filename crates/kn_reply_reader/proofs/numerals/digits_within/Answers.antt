use Rattle.std.proofs.Common.{arith}
use Rattle.kn_base.proofs.Digits.{digit_read_at, read_over, read_all}
use Rattle.kn_reply_reader.proofs.numerals.digits_within.Goals as goal

pub loop-byte-preserved : goal.loop-byte-preserved
loop-byte-preserved c = record {
  value = rw (c.from.ensures, c.saturating_sub.ensures)
      (digit_read_at _ _ _ _ c.loop-byte-test.true c.loop-byte.invariant.value);
  small = omega arith;
}

pub returns : goal.returns
returns c = read_all _ c.args.digits.now c.loop-byte.byte-index c.loop-byte.value c.loop-byte-test.false
    c.loop-byte.invariant.value c.loop-byte.invariant.small

pub returns-then-value-from : goal.returns-then-value-from
returns-then-value-from c = read_over _ _ _ _ c.loop-byte-test.true c.loop-byte.invariant.value (omega arith)
