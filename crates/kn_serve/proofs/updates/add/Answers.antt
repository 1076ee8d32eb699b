use Rattle.kn_serve.specs.Handling.{state_of}
use Rattle.kn_serve.proofs.HandlingLaws.{told_handled}
use Rattle.kn_serve.proofs.ChangingLaws.{update_unshown, add_unadmitted, added_as}
use Rattle.kn_serve.proofs.updates.add.Goals as goal

pub returns-then-not-connection-clause-handled : goal.returns-then-not-connection-clause-handled
returns-then-not-connection-clause-handled g c = λ g' e. told_handled g' _ _ _ _ _ _ _
    (update_unshown g' _ _ _ (state_of c.args.connection.now) _ c.if-not-connection.true c.print.ensures)

pub returns-in-Ok-clause-handled : goal.returns-in-Ok-clause-handled
returns-in-Ok-clause-handled g c = λ g' e.
    added_as g' _ _ _ (state_of c.args.connection.now) _ _ e c.if-not-connection.false _ _ _
    c.in-Ok.ensures.admitted c.in-Ok.ensures.text (c.add_ready.ensures.handled _ _)

pub returns-in-Err-clause-handled : goal.returns-in-Err-clause-handled
returns-in-Err-clause-handled g c = λ g' e. told_handled g' _ _ _ _ _ _ _
    (add_unadmitted g' _ _ _ (state_of c.args.connection.now) _ _ e c.if-not-connection.false _ _
    c.in-Err.ensures.refused c.refusal_as_request.ensures c.print_refusal.ensures.prints)
