use Rattle.kn_lex.specs.Computed.{tokens_or_fault, tokens_from}
use Rattle.kn_lex.specs.Literal.{value_behind}
use Rattle.kn_lex.specs.Scanning.{plain_lexeme, white_len, colon_len, zero_place, quote_len, stuck_fault}
use Rattle.kn_fields.specs.Words.{words_of, itself}
use Rattle.kn_fields.specs.Reading.{tail_at, list_at, taken, named}
use Rattle.kn_program.specs.Signs.{operation_of, comparison_of, prefix_of, truth_of, number_of}
use Rattle.kn_program.specs.Trees.{joined, chained}
use Rattle.kn_program.specs.Reading.{read_program, tests_at, negation_at, comparison_at, chain_at}
use Rattle.kn_program.specs.Reading.{operand_at, atom_at, program_at, clause_at}
use Rattle.kn_env.specs.Environment.{name_value}
use Rattle.kn_cond.proofs.Meanings.{meanings}
use Rattle.kn_cond.proofs.ProgramValues.{values}
use Rattle.kn_examples.proofs.ClauseValues.{program_clauses_value}
use Rattle.kn_examples.proofs.programs.faulty_tests.Goals as goal

pub returns : goal.returns
unfolding tokens_or_fault tokens_from plain_lexeme white_len colon_len zero_place quote_len stuck_fault
    words_of value_behind itself tail_at list_at taken named operation_of comparison_of prefix_of truth_of
    number_of joined chained read_program tests_at negation_at comparison_at chain_at operand_at atom_at
    program_at clause_at name_value
returns c = record {
  first = simp (program_clauses_value, values, meanings);
  not_reached = simp (program_clauses_value, values, meanings);
  negated = simp (program_clauses_value, values, meanings);
  below = simp (program_clauses_value, values, meanings);
  least = simp (program_clauses_value, values, meanings);
  other_clause = simp (program_clauses_value, values, meanings);
}
