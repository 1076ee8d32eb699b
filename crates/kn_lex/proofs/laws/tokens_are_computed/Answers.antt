use Rattle.kn_lex.proofs.ComputedTokens.{tokens_told, cuts_told, fault_told, first_told}
use Rattle.kn_lex.proofs.laws.tokens_are_computed.Goals as goal

pub returns-clause-tokens : goal.returns-clause-tokens
returns-clause-tokens c text tokens = (tokens_told text tokens, cuts_told text tokens)

pub returns-clause-fault : goal.returns-clause-fault
returns-clause-fault c text fault = (fault_told text fault, first_told text fault)
