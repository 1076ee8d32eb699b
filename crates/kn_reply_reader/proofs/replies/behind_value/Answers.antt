use Rattle.kn_reply_reader.proofs.ValueTextLaws.{value_faulty, value_none, value_some}
use Rattle.kn_reply_reader.proofs.replies.behind_value.Goals as goal

pub returns-in_err-text : goal.returns-in_err-text
returns-in_err-text c = rw c.from_residual.ensures (value_none c.args.left.now c.in_err-text.ensures.only)

pub returns-in-Ok : goal.returns-in-Ok
returns-in-Ok c =
    value_some c.args.left.now c.in_ok-text.text.now c.in_ok-text.rest.now c.in_ok-text.ensures.through
    c.in-Ok._head.value c.in-Ok._head.name.now
    c.in-Ok._head.version c.in-Ok.ensures.ok

pub returns-in-Err : goal.returns-in-Err
returns-in-Err c =
    value_faulty c.args.left.now c.in_ok-text.text.now c.in_ok-text.rest.now c.in_ok-text.ensures.through
    c.in-Err._fault c.in-Err.ensures.err
