use Rattle.kn_reply_reader.proofs.LogLaws.{addition_end, addition_none, addition_short, addition_uncounted}
use Rattle.kn_reply_reader.proofs.LogLaws.{addition_unended}
use Rattle.kn_reply_reader.proofs.logs.behind_addition.Goals as goal

pub returns-in_err-counted : goal.returns-in_err-counted
returns-in_err-counted c = rw c.from_residual.ensures (addition_none c.args.left.now c.in_err-counted.ensures)

pub returns-in_err-count : goal.returns-in_err-count
returns-in_err-count c =
    rw c.from_residual-in_err-count.ensures
    (addition_uncounted c.args.left.now c.in_ok-counted.counted.now c.in_ok-counted.ensures c.in_err-count.ensures)

pub returns-then-text-count : goal.returns-then-text-count
returns-then-text-count c =
    addition_short c.args.left.now c.in_ok-counted.counted.now c.in_ok-counted.ensures c.in_ok-count.count
    c.in_ok-count.text.now c.in_ok-count.ensures
    c.if-text-count.true

pub returns-in_err-rest : goal.returns-in_err-rest
returns-in_err-rest c =
    rw c.from_residual-in_err-rest.ensures
    (addition_unended c.args.left.now c.in_ok-counted.counted.now c.in_ok-counted.ensures c.in_ok-count.count
    c.in_ok-count.text.now c.in_ok-count.ensures
    c.if-text-count.false c.split_at.result.1.now c.split_at.ensures.back c.in_err-rest.ensures)

pub returns : goal.returns
returns c =
    addition_end c.args.left.now c.in_ok-counted.counted.now c.in_ok-counted.ensures c.in_ok-count.count
    c.in_ok-count.text.now c.in_ok-count.ensures
    c.if-text-count.false c.split_at.result.1.now c.split_at.ensures.back c.in_ok-rest.rest.now c.in_ok-rest.ensures
