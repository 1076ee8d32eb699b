use Rattle.std.proofs.Common.{◌≡◌, sym, subst, Option, Some, List}
use Rattle.std.specs.Prelude.{OnOk}
use Rattle.std.specs.Arc.{arc_value}
use Rattle.kn_history.specs.declared.update.Update.{Update}
use Rattle.kn_history.specs.Retained.{retained_version}
use Rattle.kn_play.specs.Playing.{state_of_sessions}
use Rattle.kn_play.proofs.RetainedPins.{after_pin, not-retained}
use Rattle.kn_play.proofs.applying.repin_at.Goals as goal

pub returns-in-Some : goal.returns-in-Some
returns-in-Some c =
    let here : Some (arc_value c.in-Some.retained.now) ≡ retained_version c.args.book.now c.args.version =
    rw c.in-Some.is at c.retained.ensures in
    subst (λ (version : Option (List Update)). OnOk c.pin_to.result (state_of_sessions c.pin_to.new.sessions
    ≡ after_pin c.args.sessions.now c.args.s version)) here c.pin_to.ensures

pub returns-in-None : goal.returns-in-None
returns-in-None c =
    not-retained c.args.book.now c.args.sessions.now c.args.s c.args.version
    (sym (rw c.in-None.is at c.retained.ensures))
