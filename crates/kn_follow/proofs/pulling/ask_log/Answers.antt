use Rattle.std.proofs.Common.{length}
use Rattle.std.proofs.lemmas.Result.{err_from_is_err_and}
use Rattle.kn_follow.specs.Answers.{log_line}
use Rattle.kn_follow.specs.declared.request.Request.TheVariants as Q
use Rattle.kn_follow.proofs.PullSteps.{stopped-before}
use Rattle.kn_follow.proofs.pulling.ask_log.Goals as goal

pub returns-in_err-line-clause-fault : goal.returns-in_err-line-clause-fault
returns-in_err-line-clause-fault g c =
    let p = err_from_is_err_and c.from_residual.result c.from_residual.ensures.1 in
    rw (p.1, p.2) (stopped-before Q.Log (log_line (length c.args.replica.now)) c.args.held.now
    (g.L.Sink.seen c.args.link.now) c.args.replica.now)
