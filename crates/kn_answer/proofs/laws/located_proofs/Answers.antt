use Rattle.kn_answer.proofs.Located.{proof-named, proof-numbered}
use Rattle.kn_answer.proofs.StatementRows.{IsBuilt-stated}
use Rattle.kn_answer.proofs.laws.located_proofs.Goals as goal

pub returns : goal.returns
returns c = λ e built is differ rows located are level. (
  proof-named e built (IsBuilt-stated e built is) rows located are level,
  proof-numbered e built (IsBuilt-stated e built is) differ rows located are level,
)
