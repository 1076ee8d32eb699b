use Rattle.kn_files.proofs.LeftOut.{left_out}
use Rattle.kn_files.proofs.laws.left_out.Goals as goal

pub returns-clause-neither : goal.returns-clause-neither
returns-clause-neither c text e = left_out text e
