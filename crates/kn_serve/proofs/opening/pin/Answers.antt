use Rattle.std.proofs.Common.{List, length, ap, ◌∙◌}
use Rattle.std.specs.Arc.{arc_value}
use Rattle.kn_history.specs.declared.update.Update.{Update}
use Rattle.kn_serve.specs.Handling.{state_of}
use Rattle.kn_serve.proofs.HandlingLaws.{told_handled}
use Rattle.kn_serve.proofs.OpeningLaws.{pin_unknown, pin_memory, pin_done}
use Rattle.kn_serve.proofs.opening.pin.Goals as goal

pub returns-in-Err-clause-handled : goal.returns-in-Err-clause-handled
returns-in-Err-clause-handled g c = λ g'. told_handled g' _ _ _ _ _ _ _
    (pin_unknown g' _ _ _ (state_of c.args.connection.now) _ _ c.in-Err.ensures.fault c.print.ensures)

pub returns-in-Err-pin_again-clause-handled : goal.returns-in-Err-pin_again-clause-handled
returns-in-Err-pin_again-clause-handled g c = λ g'.
    pin_memory g' _ _ _ _ _ (state_of c.args.connection.now) _ _ c.in-Ok.ensures.session
    c.in-Err-pin_again.ensures.refused c.print-in-Err-pin_again.ensures

pub returns-clause-handled : goal.returns-clause-handled
returns-clause-handled g c = λ g'.
    pin_done g' _ _ _ _ _ c.args.connection.now.sessions c.repin.new.self c.args.connection.now.is_admin _ _
    (arc_value c.in-Ok-pin_again.snapshot) c.in-Ok-pin_again.ensures.looked c.in-Ok-pin_again.ensures.version
    (c.number-version.ensures.number ∙ ap (λ (x : List Update). length x) c.deref.ensures)
    c.in-Ok-repin.ensures.accepted c.in-Ok-repin.ensures.ok c.print-in-Ok-repin.ensures

pub pin_again-requires-clause-held : goal.pin_again-requires-clause-held
pin_again-requires-clause-held g c = (c.requires.pinned c.args.s _ c.in-Ok.ensures.session).pin
