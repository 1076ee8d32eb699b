use Rattle.kn_history.proofs.Ids.{ids_differ}
use Rattle.kn_history.proofs.laws.ids_differ.Goals as goal

pub returns : goal.returns
returns c = ids_differ
