use Rattle.kn_laws.proofs.UnnamedAssertions.{rows-stay_a_proof, unnamed-is_not_critical, critical-is_one}
use Rattle.kn_laws.proofs.laws.unnamed_is_not_critical.Goals as goal

pub returns-clause-rows : goal.returns-clause-rows
returns-clause-rows c = rows-stay_a_proof

pub returns-clause-uncritical : goal.returns-clause-uncritical
returns-clause-uncritical c = unnamed-is_not_critical

pub returns-clause-one : goal.returns-clause-one
returns-clause-one c = critical-is_one
