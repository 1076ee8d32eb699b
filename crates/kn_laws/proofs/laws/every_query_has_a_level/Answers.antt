use Rattle.kn_laws.proofs.Settles.{has_level, has_one_level, least-within}
use Rattle.kn_laws.proofs.laws.every_query_has_a_level.Goals as goal

pub returns-clause-some : goal.returns-clause-some
returns-clause-some c = has_level

pub returns-clause-one : goal.returns-clause-one
returns-clause-one c = has_one_level

pub returns-clause-within : goal.returns-clause-within
returns-clause-within c = least-within
