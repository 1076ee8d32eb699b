use Rattle.kn_serve.specs.Handling.{state_of}
use Rattle.kn_serve.proofs.HandlingLaws.{told_handled}
use Rattle.kn_serve.proofs.ChangingLaws.{update_unshown, drop_shown, removed_handled, unremoved_handled}
use Rattle.kn_serve.proofs.updates.remove.Goals as goal

pub returns-then-not-connection-clause-handled : goal.returns-then-not-connection-clause-handled
returns-then-not-connection-clause-handled g c = λ g'. told_handled g' _ _ _ _ _ _ _
    (update_unshown g' _ _ _ (state_of c.args.connection.now) _ c.if-not-connection.true c.print.ensures)

pub returns-in-Ok-clause-handled : goal.returns-in-Ok-clause-handled
returns-in-Ok-clause-handled g c = λ g'.
    let now = state_of c.args.connection.now in
    removed_handled g' _ _ _ _ _ now c.args.k _ c.in-Ok.ensures.removed
    (drop_shown g' now c.args.k c.if-not-connection.false) c.print-in-Ok.ensures

pub returns-in-Err-clause-handled : goal.returns-in-Err-clause-handled
returns-in-Err-clause-handled g c = λ g'.
    let now = state_of c.args.connection.now in
    unremoved_handled g' _ _ _ _ _ now c.args.k _ _ c.in-Err.ensures.refused
    (drop_shown g' now c.args.k c.if-not-connection.false) c.refusal_of_store.ensures c.print_refusal.ensures.prints
