use Rattle.kn_proof.proofs.OneLine.{header_is_line, row_is_line}
use Rattle.kn_proof.proofs.laws.forms_are_lines.Goals as goal

pub returns-clause-header : goal.returns-clause-header
returns-clause-header c = header_is_line

pub returns-clause-row : goal.returns-clause-row
returns-clause-row c = row_is_line
