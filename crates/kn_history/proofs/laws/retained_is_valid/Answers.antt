use Rattle.kn_history.proofs.Ordered.{retained-is_valid, retained-are_newest}
use Rattle.kn_history.proofs.laws.retained_is_valid.Goals as goal

pub returns-clause-newest : goal.returns-clause-newest
returns-clause-newest c = retained-are_newest

pub returns-clause-valid : goal.returns-clause-valid
returns-clause-valid c = retained-is_valid
