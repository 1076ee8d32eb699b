use Rattle.kn_laws.proofs.UnaffectedLevels.{unaffected-keep_level}
use Rattle.kn_laws.proofs.laws.unaffected_keep_level.Goals as goal

pub returns : goal.returns
returns c = unaffected-keep_level
