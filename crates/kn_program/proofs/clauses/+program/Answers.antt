use Rattle.std.proofs.Common.{arith}
use Rattle.kn_fields.proofs.Words.{took, passed}
use Rattle.kn_fields.proofs.Steps.{going_more, going_last, going_over}
use Rattle.kn_program.proofs.Steps.{program_start}
use Rattle.kn_program.proofs.clauses.+program.Goals as goal

pub clauses-loop-left-init : goal.clauses-loop-left-init
clauses-loop-left-init t c = record { fewer = omega arith; going = program_start c.args.budget _ _ c.new-list.ensures }

pub clauses-returns-then-not-take_sign : goal.clauses-returns-then-not-take_sign
clauses-returns-then-not-take_sign t c =
    going_last c.loop-left.invariant.going c.loop-left-test.true c.in_ok-found.ensures
    (passed _ _ _ _ _ c.if-not-take_sign.true c.take_sign.ensures.taken c.as_slice.ensures)
    (c.take_sign.ensures.kept c.if-not-take_sign.true) c.in_ok-add.ensures

pub clauses-loop-left-preserved : goal.clauses-loop-left-preserved
clauses-loop-left-preserved t c = record {
  fewer = omega (arith, c.loop-left.invariant.fewer);
  going = going_more c.loop-left.invariant.going c.loop-left-test.true c.in_ok-found.ensures c.in_ok-add.ensures
      (took _ _ _ _ _ c.if-not-take_sign.false c.take_sign.ensures.taken c.as_slice.ensures);
}

pub clauses-returns : goal.clauses-returns
clauses-returns t c = going_over c.loop-left.invariant.going c.loop-left-test.false
