use Rattle.std.specs.Arc.{arc_value}
use Rattle.kn_serve.specs.Handling.{state_of}
use Rattle.kn_serve.proofs.HandlingLaws.{told_handled}
use Rattle.kn_serve.proofs.OpeningLaws.{pin_at_unknown, pin_at_refused, pin_at_done}
use Rattle.kn_serve.proofs.opening.pin_at.Goals as goal

pub returns-in-Err-clause-handled : goal.returns-in-Err-clause-handled
returns-in-Err-clause-handled g c = λ g'. told_handled g' _ _ _ _ _ _ _
    (pin_at_unknown g' _ _ _ (state_of c.args.connection.now) _ _ c.in-Err.ensures.fault _ c.print.ensures)

pub returns-in-Err-pin_at-clause-handled : goal.returns-in-Err-pin_at-clause-handled
returns-in-Err-pin_at-clause-handled g c = λ g'.
    pin_at_refused g' _ _ _ _ _ (state_of c.args.connection.now) _ _ _ c.in-Err-pin_at.fault _
    c.in-Ok.ensures.session c.in-Err-pin_at.ensures.refused c.refusal_of_version.ensures
    c.print_refusal.ensures.prints

pub returns-clause-handled : goal.returns-clause-handled
returns-clause-handled g c = λ g'.
    pin_at_done g' _ _ _ _ _ c.args.connection.now.sessions c.repin.new.self c.args.connection.now.is_admin _ _ _
    (arc_value c.in-Ok-pin_at.snapshot) c.in-Ok-pin_at.ensures.looked c.in-Ok-pin_at.ensures.version
    c.seen_length-newest.ensures c.in-Ok-repin.ensures.accepted c.in-Ok-repin.ensures.ok
    c.print-in-Ok-repin.ensures
