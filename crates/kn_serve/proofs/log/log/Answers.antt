use Rattle.std.proofs.Common.{List, length, ap, ◌∙◌}
use Rattle.std.specs.Arc.{arc_value}
use Rattle.kn_history.specs.declared.update.Update.{Update}
use Rattle.kn_serve.specs.Handling.{state_of}
use Rattle.kn_serve.proofs.HandlingLaws.{told_handled}
use Rattle.kn_serve.proofs.LogLaws.{log_unshown, log_memory, log_ahead, log_handed}
use Rattle.kn_serve.proofs.log.log.Goals as goal

pub returns-then-not-connection-clause-handled : goal.returns-then-not-connection-clause-handled
returns-then-not-connection-clause-handled g c = λ g'. told_handled g' _ _ _ _ _ _ _
    (log_unshown g' _ _ _ (state_of c.args.connection.now) _ c.if-not-connection.true c.print.ensures)

pub returns-in-Err-clause-handled : goal.returns-in-Err-clause-handled
returns-in-Err-clause-handled g c = λ g'.
    log_memory g' _ _ _ _ _ (state_of c.args.connection.now) _ c.if-not-connection.false c.in-Err.ensures.refused
    c.print-in-Err.ensures

pub returns-then-n-newest-clause-handled : goal.returns-then-n-newest-clause-handled
returns-then-n-newest-clause-handled g c = λ g'.
    log_ahead g' _ _ _ _ _ (state_of c.args.connection.now) _ c.if-not-connection.false _
    (arc_value c.in-Ok.snapshot) c.in-Ok.ensures.looked c.in-Ok.ensures.version
    (c.number-newest.ensures.number ∙ ap (λ (x : List Update). length x) c.deref.ensures) c.if-n-newest.true
    c.print-then-n-newest.ensures

pub returns-clause-handled : goal.returns-clause-handled
returns-clause-handled g c = λ g'.
    log_handed g' _ _ _ _ _ (state_of c.args.connection.now) _ c.if-not-connection.false _
    (arc_value c.in-Ok.snapshot) c.in-Ok.ensures.looked c.in-Ok.ensures.version
    (c.number-newest.ensures.number ∙ ap (λ (x : List Update). length x) c.deref.ensures) c.if-n-newest.false
    c.print-2.ensures
