use Rattle.std.proofs.Common.{Some, None}
use Rattle.kn_reply_reader.proofs.FormLaws.{parts_done, parts_form, parts_more, parts_none}
use Rattle.kn_reply_reader.proofs.forms.behind_form.Goals as goal

pub returns-in_err-rest : goal.returns-in_err-rest
returns-in_err-rest c =
    rw c.from_residual.ensures
    (c.loop-part.invariant.goes_on None
    (parts_none c.args.form.now c.loop-part.part-index c.loop-part.rest.now c.loop-part-test.true
    c.loop-part.invariant.form c.in_err-rest.ensures.number
    c.in_err-rest.ensures.byte))

pub loop-part-preserved : goal.loop-part-preserved
loop-part-preserved c = record {
  form = parts_form c.args.form.now c.loop-part.part-index c.loop-part.rest.now c.loop-part-test.true
      c.loop-part.invariant.form;
  goes_on = λ found next.
      c.loop-part.invariant.goes_on found
      (parts_more c.args.form.now c.loop-part.part-index c.loop-part.rest.now c.loop-part-test.true
      c.loop-part.invariant.form c.in_ok-rest.rest.now found
      c.in_ok-rest.ensures.number c.in_ok-rest.ensures.byte next);
}

pub returns : goal.returns
returns c =
    c.loop-part.invariant.goes_on (Some c.loop-part.rest.now)
    (parts_done c.args.form.now c.loop-part.part-index c.loop-part.rest.now c.loop-part-test.false)
