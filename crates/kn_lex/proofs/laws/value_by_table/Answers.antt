use Rattle.kn_lex.proofs.Table.{value_rows, table_value}
use Rattle.kn_lex.proofs.laws.value_by_table.Goals as goal

pub returns-clause-rows : goal.returns-clause-rows
returns-clause-rows c = value_rows

pub returns-clause-only : goal.returns-clause-only
returns-clause-only c value table text literal = table_value value table text literal
