use Rattle.kn_history.proofs.Histories.{live-addition, live-removal}
use Rattle.kn_history.proofs.laws.credentials_change.Goals as goal

pub returns-clause-addition : goal.returns-clause-addition
returns-clause-addition c = live-addition

pub returns-clause-removal : goal.returns-clause-removal
returns-clause-removal c = live-removal
