use Rattle.std.proofs.Common.{◌<◌, ◌^◌, length, refl, arith}
use Rattle.kn_reply_reader.proofs.ReplyLaws.{critical_end, critical_few, critical_none, critical_uncounted}
use Rattle.kn_reply_reader.proofs.ReplyLaws.{critical_unended}
use Rattle.kn_reply_reader.proofs.replies.behind_critical.Goals as goal

pub returns-in_err-counted : goal.returns-in_err-counted
returns-in_err-counted c =
    rw c.from_residual.ensures (critical_none (length c.args.left.now) c.args.left.now refl c.in_err-counted.ensures)

pub returns-in_err-count : goal.returns-in_err-count
returns-in_err-count c =
    let small : length c.args.left.now < 2 ^ 64 = omega arith in
    rw c.from_residual-in_err-count.ensures
    (critical_uncounted (length c.args.left.now) c.args.left.now refl small c.in_ok-counted.counted.now
    c.in_ok-counted.ensures c.in_err-count.ensures)

pub returns-in_err-end : goal.returns-in_err-end
returns-in_err-end c =
    let small : length c.args.left.now < 2 ^ 64 = omega arith in
    rw c.from_residual-in_err-end.ensures
    (critical_few (length c.args.left.now) c.args.left.now refl small c.in_ok-counted.counted.now
    c.in_ok-counted.ensures c.in_ok-count.count c.in_ok-count.needs.now
    c.in_ok-count.ensures c.in_err-end.ensures)

pub returns-in_err-rest : goal.returns-in_err-rest
returns-in_err-rest c =
    let small : length c.args.left.now < 2 ^ 64 = omega arith in
    rw c.from_residual-in_err-rest.ensures
    (critical_unended (length c.args.left.now) c.args.left.now refl small c.in_ok-counted.counted.now
    c.in_ok-counted.ensures c.in_ok-count.count
    c.in_ok-count.needs.now c.in_ok-count.ensures c.in_ok-end.end.now c.in_ok-end.ensures c.in_err-rest.ensures)

pub returns : goal.returns
returns c =
    let small : length c.args.left.now < 2 ^ 64 = omega arith in
    critical_end (length c.args.left.now) c.args.left.now refl small c.in_ok-counted.counted.now c.in_ok-counted.ensures
    c.in_ok-count.count c.in_ok-count.needs.now
    c.in_ok-count.ensures c.in_ok-end.end.now c.in_ok-end.ensures c.in_ok-rest.rest.now c.in_ok-rest.ensures
