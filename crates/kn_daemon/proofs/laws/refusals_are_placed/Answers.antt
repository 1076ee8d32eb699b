use Rattle.kn_daemon.proofs.Refusals.{own-unplaced, history-placed}
use Rattle.kn_daemon.proofs.laws.refusals_are_placed.Goals as goal

pub returns-clause-own : goal.returns-clause-own
returns-clause-own c = own-unplaced

pub returns-clause-history : goal.returns-clause-history
returns-clause-history c = history-placed
