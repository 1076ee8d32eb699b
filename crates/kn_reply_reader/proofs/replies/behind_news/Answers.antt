use Rattle.std.proofs.Common.{Some, None}
use Rattle.kn_reply_reader.proofs.ReplyLaws.{news_end, news_none, news_unnamed}
use Rattle.kn_reply_reader.proofs.replies.behind_news.Goals as goal

pub returns-in_err-named : goal.returns-in_err-named
returns-in_err-named c = rw c.from_residual.ensures (news_none c.args.left.now c.in_err-named.ensures)

pub returns-in_err-numbered : goal.returns-in_err-numbered
returns-in_err-numbered c =
    rw c.from_residual-in_err-numbered.ensures
    (news_unnamed c.args.left.now c.in_ok-named.named.now c.in_ok-named.ensures c.in_err-numbered.ensures)

pub returns-in_err-rest : goal.returns-in_err-rest
returns-in_err-rest c =
    rw c.from_residual-in_err-rest.ensures
    (news_end c.args.left.now c.in_ok-named.named.now c.in_ok-named.ensures c.in_ok-numbered.numbered.now None
    c.in_ok-numbered.ensures c.in_err-rest.ensures)

pub returns : goal.returns
returns c =
    news_end c.args.left.now c.in_ok-named.named.now c.in_ok-named.ensures c.in_ok-numbered.numbered.now
    (Some c.in_ok-rest.rest.now) c.in_ok-numbered.ensures
    c.in_ok-rest.ensures
