use Rattle.kn_verify.proofs.Accepted.{answers_are_proved, proved_is_accepted}
use Rattle.kn_verify.proofs.laws.answers_are_accepted.Goals as goal

pub returns-clause-proved : goal.returns-clause-proved
returns-clause-proved c = answers_are_proved

pub returns-clause-accepted : goal.returns-clause-accepted
returns-clause-accepted c = proved_is_accepted
