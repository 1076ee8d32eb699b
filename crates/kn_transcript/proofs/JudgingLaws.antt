-- The reply to a request, judged by the shape of the request.
use Rattle.std.proofs.Common.{◌≡◌, ℕ, List, Option, sym, ap, ◌∙◌, subst}
use Rattle.std.specs.Prelude.{Result, IfOk}
use Rattle.kn_history.specs.declared.update.Update.{Update}
use Rattle.kn_daemon.specs.declared.shape.Shape.{Shape as Asked}
use Rattle.kn_daemon.specs.Shapes.{Shape, shape_in_code}
use Rattle.kn_daemon.specs.Daemon.{State}
use Rattle.kn_transcript.specs.Judging.{Judges}

-- what is judged of this shape, told of the request
pub judged_as : (past : List Update) (old : State) (shape : Shape) (asked other : Asked) (left : List ℕ)
    (history : List Update)
    (new : State) {X E : Type 0} (result : Result X E) (view : X → Option (List ℕ))
    → shape ≡ shape_in_code asked → asked ≡ other
    → IfOk result (λ found. Judges past old (shape_in_code other) left history new (view found))
    → IfOk result (λ found. Judges past old shape left history new (view found))
judged_as past old shape asked other left history new result view is same judged =
    subst (λ (s : Shape). IfOk result (λ found. Judges past old s left history new (view found)))
    (sym (is ∙ ap shape_in_code same)) judged
