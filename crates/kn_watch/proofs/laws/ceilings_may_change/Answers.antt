use Rattle.kn_watch.proofs.FormerLevels.{watched-recapped}
use Rattle.kn_watch.proofs.laws.ceilings_may_change.Goals as goal

pub returns : goal.returns
returns c = watched-recapped
