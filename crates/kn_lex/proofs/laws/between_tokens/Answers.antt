use Rattle.kn_lex.proofs.Between.{apart}
use Rattle.kn_lex.proofs.laws.between_tokens.Goals as goal

pub returns : goal.returns
returns c text tokens cuts = apart text tokens cuts
