use Rattle.kn_follow.proofs.Fronts.{first_is}
use Rattle.kn_follow.proofs.files.first_bytes.Goals as goal

pub returns-clause-first : goal.returns-clause-first
returns-clause-first c = first_is c.args.bytes.now _ c.min.result c.min.ensures c.split_at.ensures.front
