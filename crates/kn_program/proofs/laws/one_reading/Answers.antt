use Rattle.kn_program.proofs.Stated.{spelled_once}
use Rattle.kn_program.proofs.laws.one_reading.Goals as goal

pub returns : goal.returns
returns c = spelled_once
