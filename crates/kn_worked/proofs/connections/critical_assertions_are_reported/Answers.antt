use Rattle.kn_worked.proofs.Criticals.{both_are_critical, neither_is_critical}
use Rattle.kn_worked.proofs.connections.critical_assertions_are_reported.Goals as goal

pub returns : goal.returns
returns c = record { both = both_are_critical; neither = neither_is_critical }
