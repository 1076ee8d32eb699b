use Rattle.kn_reply_reader.proofs.ApartLaws.{replies_apart}
use Rattle.kn_reply_reader.proofs.laws.replies_are_apart.Goals as goal

pub returns : goal.returns
returns c = replies_apart
