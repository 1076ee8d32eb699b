use Rattle.kn_lex.proofs.WholeLists.{tokens_finished, finished_tokens}
use Rattle.kn_lex.proofs.laws.finished_list.Goals as goal

pub returns : goal.returns
returns c text tokens = (tokens_finished text tokens, finished_tokens text tokens)
