use Rattle.kn_daemon.proofs.Standing.{standing-stays}
use Rattle.kn_daemon.proofs.laws.standing_query_stays.Goals as goal

pub returns : goal.returns
returns c = λ g caller past old shape reply new s. standing-stays g caller past old shape reply new s
