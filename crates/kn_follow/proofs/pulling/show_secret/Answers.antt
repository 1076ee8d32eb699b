use Rattle.std.proofs.lemmas.Result.{err_from_is_err_and}
use Rattle.kn_follow.specs.Answers.{admin_line}
use Rattle.kn_follow.specs.declared.request.Request.TheVariants as Q
use Rattle.kn_follow.proofs.PullSteps.{stopped-before}
use Rattle.kn_follow.proofs.pulling.show_secret.Goals as goal

pub returns-in_err-line-clause-fault : goal.returns-in_err-line-clause-fault
returns-in_err-line-clause-fault g c =
    let p = err_from_is_err_and c.from_residual.result c.from_residual.ensures.1 in
    rw (p.1, p.2) (λ holds. stopped-before Q.Admin (admin_line c.args.secret.now) c.args.held.now
    (g.L.Sink.seen c.args.link.now) holds)
