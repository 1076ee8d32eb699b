use Rattle.kn_history.proofs.Singles.{singles-are_histories}
use Rattle.kn_history.proofs.laws.singles_are_histories.Goals as goal

pub returns : goal.returns
returns c = singles-are_histories
