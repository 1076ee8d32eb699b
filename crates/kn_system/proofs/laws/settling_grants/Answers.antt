use Rattle.kn_system.proofs.SettlingByLevels.{grants}
use Rattle.kn_system.proofs.laws.settling_grants.Goals as goal

pub returns : goal.returns
returns c = grants
