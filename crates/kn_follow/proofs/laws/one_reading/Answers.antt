use Rattle.kn_follow.proofs.Replies.{some-reading, one-reading}
use Rattle.kn_follow.proofs.laws.one_reading.Goals as goal

pub returns-clause-some : goal.returns-clause-some
returns-clause-some c = some-reading

pub returns-clause-no_other : goal.returns-clause-no_other
returns-clause-no_other c = one-reading
