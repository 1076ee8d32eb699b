use Rattle.std.proofs.Common.{arith}
use Rattle.kn_fields.proofs.Headings.{lacks_none}
use Rattle.kn_fields.proofs.label_faults.may_have_bad_field.Goals as goal

pub returns-else-not-begins_with_label : goal.returns-else-not-begins_with_label
returns-else-not-begins_with_label c last =
    grind (arith, lacks_none c.args.tokens.now c.headings-headings.result.now c.headings-headings.ensures)
