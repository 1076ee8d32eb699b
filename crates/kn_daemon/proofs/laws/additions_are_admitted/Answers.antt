use Rattle.kn_daemon.proofs.Admins.{added-admitted, batch-admitted}
use Rattle.kn_daemon.proofs.laws.additions_are_admitted.Goals as goal

pub returns : goal.returns
returns c = record { text = added-admitted; items = batch-admitted }
