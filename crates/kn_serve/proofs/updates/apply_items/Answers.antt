use Rattle.kn_serve.proofs.BatchLaws.{batch_applied, batch_unapplied}
use Rattle.kn_serve.proofs.updates.apply_items.Goals as goal

pub returns-in-Ok-clause-handled : goal.returns-in-Ok-clause-handled
returns-in-Ok-clause-handled g c = λ g' now block read reads seen own.
    batch_applied g' _ _ _ _ _ now block read _ reads seen own c.in-Ok.batched c.in-Ok.ensures.batched c.print.ensures

pub returns-in-Err-clause-handled : goal.returns-in-Err-clause-handled
returns-in-Err-clause-handled g c = λ g' now block read reads seen own.
    batch_unapplied g' _ _ _ _ _ now block read _ reads seen own _ _ c.in-Err.ensures.refused
    c.refusal_of_batch.ensures c.print_refusal.ensures.prints
