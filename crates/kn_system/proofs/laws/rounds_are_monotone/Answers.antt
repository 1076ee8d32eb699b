use Rattle.kn_system.proofs.Rounds.{round-below}
use Rattle.kn_system.proofs.laws.rounds_are_monotone.Goals as goal

pub returns : goal.returns
returns c = round-below
