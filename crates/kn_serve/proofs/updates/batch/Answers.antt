use Rattle.kn_serve.specs.Handling.{state_of}
use Rattle.kn_serve.proofs.HandlingLaws.{told_handled}
use Rattle.kn_serve.proofs.ChangingLaws.{update_unshown}
use Rattle.kn_serve.proofs.BatchLaws.{batch_unread, batch_unadmitted, batch_admitted}
use Rattle.kn_serve.proofs.updates.batch.Goals as goal

pub returns-then-not-connection-clause-handled : goal.returns-then-not-connection-clause-handled
returns-then-not-connection-clause-handled g c = λ g' e. told_handled g' _ _ _ _ _ _ _
    (update_unshown g' _ _ _ (state_of c.args.connection.now) _ c.if-not-connection.true c.print.ensures)

pub returns-in-Err-clause-handled : goal.returns-in-Err-clause-handled
returns-in-Err-clause-handled g c = λ g' e. told_handled g' _ _ _ _ _ _ _
    (batch_unread g' _ _ _ (state_of c.args.connection.now) c.args.block.now c.in-Err.fault _ c.if-not-connection.false
    c.in-Err.ensures.fault c.refusal_of_block.ensures c.print_refusal.ensures.prints)

pub returns-in-Err-admit_items-clause-handled : goal.returns-in-Err-admit_items-clause-handled
returns-in-Err-admit_items-clause-handled g c = λ g' e. told_handled g' _ _ _ _ _ _ _
    (batch_unadmitted g' (state_of c.args.connection.now) c.args.block.now _ _ e c.if-not-connection.false
    c.in-Ok.ensures.items _ _ _ _ c.in-Err-admit_items.ensures.refused
    c.print_refusal-in-Err-admit_items.ensures.prints)

pub returns-clause-handled : goal.returns-clause-handled
returns-clause-handled g c = λ g' e.
    let now = state_of c.args.connection.now in
    c.apply_items.ensures.handled g' now c.args.block.now _ c.in-Ok.ensures.items c.in-Ok-admit_items.ensures.items
    (batch_admitted g' now c.args.block.now _ _ e c.if-not-connection.false c.in-Ok.ensures.items
    c.in-Ok-admit_items.ensures.admitted)
