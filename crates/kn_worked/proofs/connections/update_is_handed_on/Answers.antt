use Rattle.kn_worked.proofs.LookConnections.{update_is_handed_on}
use Rattle.kn_worked.proofs.connections.update_is_handed_on.Goals as goal

pub returns : goal.returns
returns c = update_is_handed_on
