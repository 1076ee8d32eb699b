use Rattle.kn_system.proofs.Rounds.{by_principal}
use Rattle.kn_system.proofs.laws.rounds_are_by_principal.Goals as goal

pub returns : goal.returns
returns c = by_principal
