use Rattle.std.proofs.Common.{refl, sym, arith, rules, length-append}
use Rattle.kn_fields.proofs.Words.{took, passed}
use Rattle.kn_program.proofs.Stacks.{parts_more, parts_last, rights_more, rights_last, still_some}
use Rattle.kn_program.proofs.expression.+expression.Goals as goal

pub more_tests-returns-then-not-take_sign : goal.more_tests-returns-then-not-take_sign
more_tests-returns-then-not-take_sign t c below first stood =
    parts_last (c.loop-left.invariant.going below first stood) c.loop-left-test.true c.in_ok-test.ensures
    (passed _ _ _ _ _ c.if-not-take_sign.true c.take_sign.ensures.taken c.joint_text.ensures)
    (c.take_sign.ensures.kept c.if-not-take_sign.true)
    c.in_ok-join_tests.ensures

pub more_tests-loop-left-preserved : goal.more_tests-loop-left-preserved
more_tests-loop-left-preserved t c = record {
  counted = omega (arith, c.loop-left.invariant.counted);
  some = omega (arith, c.loop-left.invariant.some);
  there = grind (arith, length-append);
  going = λ below first stood.
      parts_more (c.loop-left.invariant.going below first stood) c.loop-left-test.true c.in_ok-test.ensures
      (took _ _ _ _ _ c.if-not-take_sign.false c.take_sign.ensures.taken c.joint_text.ensures);
}

pub links-returns-in_default : goal.links-returns-in_default
links-returns-in_default t c below first stood =
    rights_last (c.loop-left.invariant.going below first stood) c.loop-left-test.true c.in_ok-side.ensures
    c.in_ok-add.ensures.ok
    (sym c.in_default.ensures.taken) (c.in_default.ensures.kept refl)
    (rw c.as_slice.ensures at c.in_ok-chain.ensures.ok)

pub links-loop-left-preserved : goal.links-loop-left-preserved
links-loop-left-preserved t c = record {
  there = grind (arith, length-append);
  going = λ below first stood.
      rights_more (c.loop-left.invariant.going below first stood) c.loop-left-test.true c.in_ok-side.ensures
      c.in_ok-add.ensures.ok
      (sym c.in-Some.ensures.taken);
}

pub operations-links-requires : goal.operations-links-requires
operations-links-requires t c = (search rules, still_some c.requires.some c.in_ok-first_side.ensures)
