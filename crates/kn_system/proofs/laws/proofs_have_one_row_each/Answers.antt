use Rattle.kn_system.proofs.ProofSizes.{one-row-each}
use Rattle.kn_system.proofs.laws.proofs_have_one_row_each.Goals as goal

pub returns : goal.returns
returns c = one-row-each
