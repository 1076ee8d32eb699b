use Rattle.std.proofs.Common.{Some, None}
use Rattle.kn_reply_reader.proofs.LogLaws.{update_empty, update_end, update_none, update_uncalled, update_uncounted}
use Rattle.kn_reply_reader.proofs.logs.behind_update.Goals as goal

pub returns-in_err-named : goal.returns-in_err-named
returns-in_err-named c = rw c.from_residual.ensures (update_none c.args.left.now c.in_err-named.ensures)

pub returns-in_err-_caller : goal.returns-in_err-_caller
returns-in_err-_caller c =
    rw c.from_residual-in_err-_caller.ensures
    (update_uncalled c.args.left.now c.in_ok-named.named.now c.in_ok-named.ensures c.in_err-_caller.ensures)

pub returns-in_err-count : goal.returns-in_err-count
returns-in_err-count c =
    rw c.from_residual-in_err-count.ensures
    (update_uncounted c.args.left.now c.in_ok-named.named.now c.in_ok-named.ensures c.in_ok-_caller._caller
    c.in_ok-_caller.counted.now c.in_ok-_caller.ensures
    c.in_err-count.ensures)

pub returns-then-count-eq0 : goal.returns-then-count-eq0
returns-then-count-eq0 c =
    update_empty c.args.left.now c.in_ok-named.named.now c.in_ok-named.ensures c.in_ok-_caller._caller
    c.in_ok-_caller.counted.now c.in_ok-_caller.ensures
    c.in_ok-count.count c.in_ok-count.changes.now c.in_ok-count.ensures c.if-count-eq0.true

pub returns-in_err-rest : goal.returns-in_err-rest
returns-in_err-rest c =
    rw c.from_residual-in_err-rest.ensures
    (update_end c.args.left.now c.in_ok-named.named.now c.in_ok-named.ensures c.in_ok-_caller._caller
    c.in_ok-_caller.counted.now c.in_ok-_caller.ensures
    c.in_ok-count.count c.in_ok-count.changes.now c.in_ok-count.ensures None c.if-count-eq0.false c.in_err-rest.ensures)

pub returns : goal.returns
returns c =
    update_end c.args.left.now c.in_ok-named.named.now c.in_ok-named.ensures c.in_ok-_caller._caller
    c.in_ok-_caller.counted.now c.in_ok-_caller.ensures
    c.in_ok-count.count c.in_ok-count.changes.now c.in_ok-count.ensures (Some c.in_ok-rest.rest.now)
    c.if-count-eq0.false c.in_ok-rest.ensures
