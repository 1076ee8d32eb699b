use Rattle.kn_formula.proofs.Licenses.{spelled_once}
use Rattle.kn_formula.proofs.laws.one_reading.Goals as goal

pub returns : goal.returns
returns c = spelled_once
