use Rattle.std.proofs.Common.{refl}
use Rattle.kn_lex.specs.Computed.{tokens_or_fault, tokens_from}
use Rattle.kn_lex.specs.Scanning.{plain_lexeme, white_len, colon_len, zero_place, quote_len, stuck_fault}
use Rattle.kn_examples.proofs.expressions.left_out.Goals as goal

pub returns : goal.returns
unfolding tokens_or_fault tokens_from plain_lexeme white_len colon_len zero_place quote_len stuck_fault
returns c = record {
  float_sign = refl;
  fraction = refl;
  regular_expression = refl;
  number = refl;
}
