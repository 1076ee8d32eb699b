use Rattle.kn_files.proofs.Rows.{blank_outside, line_inside}
use Rattle.kn_files.proofs.laws.spans_by_lines.Goals as goal

pub returns-clause-blank : goal.returns-clause-blank
returns-clause-blank c file line span here cut i = blank_outside file line span here cut i

pub returns-clause-inside : goal.returns-clause-inside
returns-clause-inside c file lines line paragraph i = line_inside file lines line paragraph i
