use Rattle.std.proofs.Common.{Some, None, List, ℕ, [], Bor}
use Rattle.kn_reply_reader.proofs.FormLaws.{view_form, views_done, views_first, views_forms, views_other}
use Rattle.kn_reply_reader.proofs.forms.behind_one_form.Goals as goal

abbrev shown : Bor (List ℕ) → List ℕ
shown form = form.now

abbrev nothing : Bor (List ℕ)
nothing = record { ref_ptr = (0, 0); now = [] }

pub behind_form-requires : goal.behind_form-requires
behind_form-requires c =
    view_form shown c.args.forms.now c.loop-form.form-index c.args.left.now nothing c.loop-form-test.true
    c.loop-form.invariant.forms

pub returns-in-Some : goal.returns-in-Some
returns-in-Some c =
    c.loop-form.invariant.goes_on (Some c.in-Some.rest.now)
    (views_first shown c.args.forms.now c.loop-form.form-index c.args.left.now nothing c.loop-form-test.true
    c.in-Some.rest.now c.in-Some.ensures)

pub loop-form-preserved : goal.loop-form-preserved
loop-form-preserved c = record {
  forms = views_forms shown c.args.forms.now c.loop-form.form-index c.args.left.now nothing c.loop-form-test.true
      c.loop-form.invariant.forms;
  goes_on = λ found next.
      c.loop-form.invariant.goes_on found
      (views_other shown c.args.forms.now c.loop-form.form-index c.args.left.now nothing c.loop-form-test.true found
      c.in_default.ensures next);
}

pub returns : goal.returns
returns c =
    c.loop-form.invariant.goes_on None
    (views_done shown c.args.forms.now c.loop-form.form-index c.args.left.now c.loop-form-test.false)
