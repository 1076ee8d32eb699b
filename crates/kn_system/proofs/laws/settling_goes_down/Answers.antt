use Rattle.kn_system.proofs.SettlingByLevels.{goes_down}
use Rattle.kn_system.proofs.laws.settling_goes_down.Goals as goal

pub returns : goal.returns
returns c = goes_down
