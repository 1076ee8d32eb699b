use Rattle.kn_lex.specs.Computed.{tokens_or_fault, tokens_from}
use Rattle.kn_lex.specs.Literal.{value_behind}
use Rattle.kn_lex.specs.Scanning.{plain_lexeme, white_len, colon_len, zero_place, quote_len, stuck_fault}
use Rattle.kn_fields.specs.Words.{words_of, itself}
use Rattle.kn_fields.specs.Reading.{tail_at, list_at, taken, named}
use Rattle.kn_program.specs.Signs.{operation_of, comparison_of, prefix_of, truth_of, number_of}
use Rattle.kn_program.specs.Trees.{joined, chained}
use Rattle.kn_program.specs.Reading.{tests_at, negation_at, comparison_at, chain_at, operand_at, atom_at}
use Rattle.kn_env.specs.Environment.{name_value}
use Rattle.kn_cond.proofs.Meanings.{meanings}
use Rattle.kn_examples.proofs.expressions.precedence.Goals as goal

pub returns : goal.returns
unfolding tokens_or_fault tokens_from plain_lexeme white_len colon_len zero_place quote_len stuck_fault
    words_of value_behind itself tail_at list_at taken named operation_of comparison_of prefix_of truth_of
    number_of joined chained tests_at negation_at comparison_at chain_at operand_at atom_at name_value
returns c = record {
  and_before_or = simp meanings;
  brackets = simp meanings;
  not_before_and = simp meanings;
  not_before_or = simp meanings;
  comparison_before_not = simp meanings;
  times_before_plus = simp meanings;
  power_before_times = simp meanings;
  minus_before_power = simp meanings;
  differences = simp meanings;
  quotients = simp meanings;
  powers = simp meanings;
}
