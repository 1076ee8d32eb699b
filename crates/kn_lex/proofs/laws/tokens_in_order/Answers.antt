use Rattle.kn_lex.proofs.Order.{in_order}
use Rattle.kn_lex.proofs.WholeLists.{first_of_lines}
use Rattle.kn_lex.proofs.laws.tokens_in_order.Goals as goal

pub returns-clause-order : goal.returns-clause-order
returns-clause-order c text tokens cuts = in_order text tokens cuts

pub returns-clause-first : goal.returns-clause-first
returns-clause-first c text tokens cuts = first_of_lines text tokens cuts
