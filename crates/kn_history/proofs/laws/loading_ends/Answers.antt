use Rattle.kn_history.proofs.Loading.{loading_ends, ends_once}
use Rattle.kn_history.proofs.laws.loading_ends.Goals as goal

pub returns-clause-one_way : goal.returns-clause-one_way
returns-clause-one_way c = loading_ends

pub returns-clause-no_other : goal.returns-clause-no_other
returns-clause-no_other c = ends_once
