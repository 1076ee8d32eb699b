use Rattle.std.proofs.Common.{sym, ◌∙◌}
use Rattle.kn_reply_reader.proofs.Written.{behind_digits, behind_none}
use Rattle.kn_reply_reader.proofs.numerals.behind_number.Goals as goal

pub returns-then-has_form : goal.returns-then-has_form
returns-then-has_form c =
    behind_digits c.args.left.now c.split_digits.result.0.now c.split_digits.result.1.now c.split_digits.ensures.cut
    c.split_digits.ensures.digits
    c.split_digits.ensures.other (sym c.has_form.ensures ∙ c.if-has_form.true)

pub returns-else-has_form : goal.returns-else-has_form
returns-else-has_form c =
    behind_none c.args.left.now c.split_digits.result.0.now c.split_digits.result.1.now c.split_digits.ensures.cut
    c.split_digits.ensures.digits
    c.split_digits.ensures.other (sym c.has_form.ensures ∙ c.if-has_form.false)
