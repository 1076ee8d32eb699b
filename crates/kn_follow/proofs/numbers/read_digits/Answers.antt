use Rattle.std.proofs.Common.{sym}
use Rattle.kn_follow.proofs.Loops.{digits_end, digits_next, digits_other}
use Rattle.kn_follow.proofs.numbers.read_digits.Goals as goal

pub returns-then-ends_number-clause-number : goal.returns-then-ends_number-clause-number
returns-then-ends_number-clause-number c =
    digits_end c.args.least c.args.most c.args.end c.digits.number c.digits.rest.now c.in-Some.byte.now
    c.in-Some.behind.now _ c.in-Some.ensures.cases.0 (sym c.if-ends_number.ensures.ends) c.digits.invariant.0

pub returns-in-None-clause-number : goal.returns-in-None-clause-number
returns-in-None-clause-number c =
    digits_other c.args.least c.args.most c.args.end c.digits.number c.digits.rest.now c.in-Some.byte.now
    c.in-Some.behind.now _ c.in-Some.ensures.cases.0 (sym c.if-ends_number.ensures.ends) c.in-None.ensures.none
    c.digits.invariant.0

pub digits-preserved : goal.digits-preserved
digits-preserved c = (
  digits_next c.args.least c.args.most c.args.end c.digits.number c.digits.rest.now c.in-Some.byte.now
      c.in-Some.behind.now c.in-Some-next_number.next _ c.in-Some.ensures.cases.0 (sym c.if-ends_number.ensures.ends)
      c.in-Some-next_number.ensures.some c.in-Some-next_number.ensures.next
      c.digits.invariant.0,
  c.in-Some-next_number.ensures.most,
)
