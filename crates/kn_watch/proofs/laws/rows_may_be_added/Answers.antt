use Rattle.kn_watch.proofs.AddedRows.{watched-grown}
use Rattle.kn_watch.proofs.laws.rows_may_be_added.Goals as goal

pub returns : goal.returns
returns c = watched-grown
