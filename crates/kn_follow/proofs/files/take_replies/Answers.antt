use Rattle.std.proofs.lemmas.Result.{err_from_is_err_and}
use Rattle.kn_follow.proofs.Fronts.{follow_more}
use Rattle.kn_follow.proofs.files.take_replies.Goals as goal

pub returns-in_err-rest-clause-fault : goal.returns-in_err-rest-clause-fault
returns-in_err-rest-clause-fault c =
    let told = err_from_is_err_and c.from_residual.result c.from_residual.ensures.1 in
    rw (told.1, told.2) (λ text first. record {
      held = c.replies.replica;
      left = c.replies.rest.now;
      first = c.replies.invariant text first;
      why = c.in_err-rest.ensures.fault;
    })

pub replies-preserved : goal.replies-preserved
replies-preserved c = λ text first.
    follow_more text _ _ _ _ (c.replies.invariant text first) c.in_ok-rest.ensures.applied
