use Rattle.std.proofs.Common.{List, length, ap, ◌∙◌}
use Rattle.std.specs.Arc.{arc_value}
use Rattle.kn_history.specs.declared.update.Update.{Update}
use Rattle.kn_serve.specs.Handling.{state_of}
use Rattle.kn_serve.proofs.HandlingLaws.{told_handled}
use Rattle.kn_serve.proofs.OpeningLaws.{open_full, open_unpinned, open_unstarted, open_started}
use Rattle.kn_serve.proofs.opening.open.Goals as goal

pub returns-then-count-ge-SESSIONS-clause-handled : goal.returns-then-count-ge-SESSIONS-clause-handled
returns-then-count-ge-SESSIONS-clause-handled g c = λ g'. told_handled g' _ _ _ _ _ _ _
    (open_full g' _ _ _ (state_of c.args.connection.now) _ c.len-count.ensures c.if-count-ge-SESSIONS.true
    c.print.ensures)

pub returns-in-Err-clause-handled : goal.returns-in-Err-clause-handled
returns-in-Err-clause-handled g c = λ g'.
    open_unpinned g' _ _ _ _ _ (state_of c.args.connection.now) _ c.len-count.ensures c.if-count-ge-SESSIONS.false
    c.in-Err.ensures.refused c.print-in-Err.ensures

pub returns-in-Ok-start-clause-handled : goal.returns-in-Ok-start-clause-handled
returns-in-Ok-start-clause-handled g c = λ g'.
    open_started g' _ _ _ _ _ c.args.connection.now.sessions c.start.new.self c.args.connection.now.is_admin _ _
    (arc_value c.in-Ok.snapshot) c.in-Ok.ensures.looked c.in-Ok.ensures.version
    (c.number-version.ensures.number ∙ ap (λ (x : List Update). length x) c.deref.ensures)
    c.in-Ok-start.ensures.accepted c.in-Ok-start.ensures.number c.in-Ok-start.ensures.ok
    c.print-in-Ok-start.ensures

pub returns-in-Err-start-clause-handled : goal.returns-in-Err-start-clause-handled
returns-in-Err-start-clause-handled g c = λ g'.
    open_unstarted g' _ _ _ _ _ c.args.connection.now.sessions c.start.new.self c.args.connection.now.is_admin _
    c.len-count.ensures c.if-count-ge-SESSIONS.false c.in-Ok.ensures.looked c.in-Err-start.ensures.err
    c.print-in-Err-start.ensures
