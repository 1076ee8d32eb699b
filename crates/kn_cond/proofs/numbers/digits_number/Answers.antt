use Rattle.std.proofs.Common.{◌≤◌, ◌-◌, get_or, arith}
use Rattle.kn_base.proofs.Digits.{digit_read_at, digits_left}
use Rattle.kn_cond.proofs.Digits.{read_within, digit_here, digit_small}
use Rattle.kn_cond.proofs.numbers.digits_number.Goals as goal

pub loop-digit-preserved : goal.loop-digit-preserved
loop-digit-preserved c =
    let digit = digit_here c.args.digits.now c.loop-digit.digit-index c.loop-digit-test.true
    c.loop-digit.invariant.digits in
    let small : get_or c.args.digits.now c.loop-digit.digit-index 0 - 48 ≤ 9 = digit_small _ digit in
    record {
      value = rw c.from.ensures (digit_read_at _ _ _ _ c.loop-digit-test.true c.loop-digit.invariant.value);
      digits = digits_left _ _ _ c.loop-digit-test.true digit c.loop-digit.invariant.digits;
      small = omega arith;
    }

pub returns-then-number-gt-BEYOND : goal.returns-then-number-gt-BEYOND
returns-then-number-gt-BEYOND c =
    let least = read_within c.args.digits.now c.loop-digit.digit-index c.loop-digit.number
    c.loop-digit.invariant.value in
    omega (arith, least)
