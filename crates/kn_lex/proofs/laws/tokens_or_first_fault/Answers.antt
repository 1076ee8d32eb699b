use Rattle.kn_lex.proofs.LexerStates.{every_text, one_list, one_fault}
use Rattle.kn_lex.proofs.laws.tokens_or_first_fault.Goals as goal

pub returns-clause-some : goal.returns-clause-some
returns-clause-some c text = every_text text

pub returns-clause-not_both : goal.returns-clause-not_both
returns-clause-not_both c text fault none first = none fault first.has

pub returns-clause-one_list : goal.returns-clause-one_list
returns-clause-one_list c text tokens other h k = one_list text tokens other h k

pub returns-clause-one_fault : goal.returns-clause-one_fault
returns-clause-one_fault c text fault other h k = one_fault text fault other h k
