use Rattle.kn_history.proofs.Histories.{valid-grows, valid-before}
use Rattle.kn_history.proofs.laws.valid_histories.Goals as goal

pub returns-clause-grows : goal.returns-clause-grows
returns-clause-grows c = valid-grows

pub returns-clause-before : goal.returns-clause-before
returns-clause-before c = valid-before
