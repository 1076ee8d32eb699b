use Rattle.kn_daemon.proofs.Lifetimes.{refused-look_not_told}
use Rattle.kn_daemon.proofs.laws.refused_looks_are_not_reported.Goals as goal

pub returns : goal.returns
returns c = refused-look_not_told
