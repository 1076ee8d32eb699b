use Rattle.std.proofs.Common.{arith}
use Rattle.kn_base.proofs.Digits.{one_digit_more, nine_digits, digit_read_at, digits_left}
use Rattle.kn_base.proofs.number.digits_number.Goals as goal

pub overflow_mul-number : goal.overflow_mul-number
overflow_mul-number c =
    omega (arith, nine_digits c.loop-byte.byte-index c.loop-byte.number (omega arith) c.loop-byte.invariant.small)

pub overflow_add-number : goal.overflow_add-number
overflow_add-number c =
    omega (
      arith,
      c.in-Some.ensures.some.2,
      nine_digits c.loop-byte.byte-index c.loop-byte.number (omega arith) c.loop-byte.invariant.small,
    )

pub loop-byte-preserved : goal.loop-byte-preserved
loop-byte-preserved c = record {
  value = rw c.in-Some.ensures.some.1 (digit_read_at _ _ _ _ c.loop-byte-test.true c.loop-byte.invariant.value);
  digits = digits_left _ _ _ c.loop-byte-test.true c.in-Some.ensures.some.0 c.loop-byte.invariant.digits;
  small = one_digit_more _ _ _ c.loop-byte.invariant.small c.in-Some.ensures.some.2;
}
