use Rattle.kn_lex.proofs.Facts.{token_facts}
use Rattle.kn_lex.proofs.laws.token_facts.Goals as goal

pub returns : goal.returns
returns c text tokens cuts faultless = token_facts text tokens cuts faultless
