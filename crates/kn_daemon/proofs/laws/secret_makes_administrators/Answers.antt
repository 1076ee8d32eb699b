use Rattle.kn_daemon.proofs.Admins.{others-refused, secret-makes_admin, admin-stays}
use Rattle.kn_daemon.proofs.laws.secret_makes_administrators.Goals as goal

pub returns : goal.returns
returns c = record { others = others-refused; secret = secret-makes_admin; stays = admin-stays }
