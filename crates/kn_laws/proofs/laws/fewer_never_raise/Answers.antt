use Rattle.kn_laws.proofs.FewerAssertions.{fewer-lower_all, fewer-never_raise}
use Rattle.kn_laws.proofs.laws.fewer_never_raise.Goals as goal

pub returns-clause-all : goal.returns-clause-all
returns-clause-all c = fewer-lower_all

pub returns-clause-policy : goal.returns-clause-policy
returns-clause-policy c = fewer-never_raise
