use Rattle.kn_system.proofs.SettlingByLevels.{starts}
use Rattle.kn_system.proofs.laws.settling_starts.Goals as goal

pub returns : goal.returns
returns c = starts
