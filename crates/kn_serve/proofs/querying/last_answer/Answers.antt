use Rattle.std.proofs.Common.{List, length, ap, ◌∙◌}
use Rattle.kn_history.specs.declared.update.Update.{Update}
use Rattle.kn_session.specs.Views.{session_of_view}
use Rattle.kn_serve.specs.Handling.{state_of}
use Rattle.kn_serve.proofs.LastLaws.{answers-kept}
use Rattle.kn_serve.proofs.querying.last_answer.Goals as goal

pub returns : goal.returns
returns c =
    answers-kept (state_of c.args.connection.now) c.args.connection.now.last c.args.s _ c.args.names.now _ _
    (session_of_view c.in-Ok.view) c.in-Ok.ensures.session
    (c.number-version.ensures.number ∙ ap (λ (x : List Update). length x) c.deref.ensures) c.requires.last
    c.in_ok-values.ensures
