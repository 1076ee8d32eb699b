use Rattle.kn_lex.proofs.ComputedTokens.{fewer_tokens}
use Rattle.kn_lex.proofs.laws.no_more_tokens_than_bytes.Goals as goal

pub returns : goal.returns
returns c text tokens cuts = fewer_tokens text tokens cuts
