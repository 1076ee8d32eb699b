use Rattle.kn_history.proofs.Valid.{loadable_is_valid}
use Rattle.kn_history.proofs.laws.loadable_is_valid.Goals as goal

pub returns : goal.returns
returns c = loadable_is_valid
