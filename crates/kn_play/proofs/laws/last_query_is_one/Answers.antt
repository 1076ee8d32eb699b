use Rattle.kn_play.proofs.Finding.{one-query}
use Rattle.kn_play.proofs.laws.last_query_is_one.Goals as goal

pub returns : goal.returns
returns c = one-query
