use Rattle.std.proofs.Common.{sym}
use Rattle.kn_reply_reader.proofs.ReplyLaws.{name_none, name_other, name_some}
use Rattle.kn_reply_reader.proofs.replies.behind_name.Goals as goal

pub returns-in_err-name : goal.returns-in_err-name
returns-in_err-name c = rw c.from_residual.ensures (name_none c.args.left.now c.in_err-name.ensures.cut)

pub returns-then-is_name : goal.returns-then-is_name
returns-then-is_name c = name_some c.args.left.now c.in_ok-name.name.now c.in_ok-name.rest.now c.in_ok-name.ensures.cut
    (sym c.if-is_name.ensures)

pub returns-else-is_name : goal.returns-else-is_name
returns-else-is_name c =
    name_other c.args.left.now c.in_ok-name.name.now c.in_ok-name.rest.now c.in_ok-name.ensures.cut
    c.in_ok-name.ensures.first (sym c.if-is_name.ensures)
