use Rattle.kn_system.proofs.SettlingByLevels.{ends}
use Rattle.kn_system.proofs.laws.settling_ends.Goals as goal

pub returns : goal.returns
returns c = ends
