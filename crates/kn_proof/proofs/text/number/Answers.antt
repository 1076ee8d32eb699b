use Rattle.kn_proof.proofs.Numerals.{number_spelled, number_range}
use Rattle.kn_proof.proofs.text.number.Goals as goal

pub returns-clause-spelled : goal.returns-clause-spelled
returns-clause-spelled c = number_spelled c.args.numeral.now c.decimal.result c.requires c.decimal.ensures

pub returns-clause-range : goal.returns-clause-range
returns-clause-range c = number_range c.args.numeral.now c.decimal.result c.requires c.decimal.ensures
