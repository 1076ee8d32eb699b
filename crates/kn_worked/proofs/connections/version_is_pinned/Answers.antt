use Rattle.kn_worked.proofs.LookConnections.{version_is_pinned}
use Rattle.kn_worked.proofs.connections.version_is_pinned.Goals as goal

pub returns : goal.returns
returns c = version_is_pinned
