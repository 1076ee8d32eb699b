use Rattle.kn_reply_reader.proofs.AnyLaws.{begins}
use Rattle.kn_reply_reader.proofs.replies.begins_with_reply.Goals as goal

pub returns : goal.returns
returns c = begins (λ rest. rest.now) c.args.left.now c.behind_any_reply.result c.is_some.result c.is_some.ensures
    c.behind_any_reply.ensures
