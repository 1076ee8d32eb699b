use Rattle.kn_follow.specs.InCode.{reply_of}
use Rattle.kn_follow.proofs.Replies.{whole_form}
use Rattle.kn_follow.proofs.replica.read_whole.Goals as goal

pub returns-then-is_empty-clause-form : goal.returns-then-is_empty-clause-form
returns-then-is_empty-clause-form c =
    whole_form c.args.text.now (reply_of c.in-Ok.reply) c.in-Ok.rest.now c.in-Ok.ensures c.if-is_empty.ensures
