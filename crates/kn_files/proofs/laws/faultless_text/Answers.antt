use Rattle.kn_files.proofs.TokenBoundaries.{one_span}
use Rattle.kn_files.proofs.laws.faultless_text.Goals as goal

pub returns-clause-one : goal.returns-clause-one
returns-clause-one c text token tokens cuts faultless = one_span text token tokens cuts faultless
