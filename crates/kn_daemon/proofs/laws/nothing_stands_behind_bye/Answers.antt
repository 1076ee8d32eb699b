use Rattle.kn_daemon.proofs.Lifetimes.{nothing-behind_bye}
use Rattle.kn_daemon.proofs.laws.nothing_stands_behind_bye.Goals as goal

pub returns : goal.returns
returns c = nothing-behind_bye
