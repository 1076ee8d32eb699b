use Rattle.kn_system.proofs.SettlingByLevels.{goes_on}
use Rattle.kn_system.proofs.laws.proofs_go_on.Goals as goal

pub returns : goal.returns
returns c = goes_on
