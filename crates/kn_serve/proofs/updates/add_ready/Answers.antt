use Rattle.kn_serve.proofs.ChangingLaws.{added_handled, unadded_handled}
use Rattle.kn_serve.proofs.updates.add_ready.Goals as goal

pub returns-in-Ok-clause-handled : goal.returns-in-Ok-clause-handled
returns-in-Ok-clause-handled g c = λ g' now own.
    added_handled g' _ _ _ _ _ now _ _ _ c.in-Ok.ensures.added own c.print.ensures

pub returns-in-Err-clause-handled : goal.returns-in-Err-clause-handled
returns-in-Err-clause-handled g c = λ g' now own.
    unadded_handled g' _ _ _ _ _ now _ _ _ c.in-Err.ensures.refused own c.refusal_of_store.ensures
    c.print_refusal.ensures.prints
