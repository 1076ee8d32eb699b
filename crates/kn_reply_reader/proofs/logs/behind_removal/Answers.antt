use Rattle.kn_reply_reader.proofs.LogLaws.{removal_end, removal_none, removal_unnumbered}
use Rattle.kn_reply_reader.proofs.logs.behind_removal.Goals as goal

pub returns-in_err-number : goal.returns-in_err-number
returns-in_err-number c = rw c.from_residual.ensures (removal_none c.args.left.now c.in_err-number.ensures)

pub returns-in_err-_k : goal.returns-in_err-_k
returns-in_err-_k c =
    rw c.from_residual-in_err-_k.ensures
    (removal_unnumbered c.args.left.now c.in_ok-number.number.now c.in_ok-number.ensures c.in_err-_k.ensures)

pub returns : goal.returns
returns c = removal_end c.args.left.now c.in_ok-number.number.now c.in_ok-number.ensures c.in_ok-_k._k
    c.in_ok-_k.rest.now c.in_ok-_k.ensures
