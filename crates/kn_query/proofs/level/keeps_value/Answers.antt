use Rattle.std.proofs.Common.{rules, ◌≡◌, List, [], map, take, ap, subst}
use Rattle.std.proofs.lemmas.Result.{IfOk-weaker}
use Rattle.kn_history.specs.declared.update.Update.{Update}
use Rattle.kn_session.specs.Sessions.{Session}
use Rattle.kn_session.specs.Views.{numbered_text, session_of_view}
use Rattle.kn_query.specs.Steady.{KeepsLevel}
use Rattle.kn_query.proofs.SharedParts.{value-kept}
use Rattle.kn_query.proofs.level.keeps_value.Goals as goal

pub returns-clause-value : goal.returns-clause-value
returns-clause-value c =
    let session : Session = session_of_view c.args.view.now in
    let own : c.args.view.now.private.now ≡ [] = search rules in
    let none : session.privates ≡ [] = ap (map numbered_text) own in
    IfOk-weaker c.is_steady_since.result _ _ (λ keeps steady is values level was.
    value-kept session c.args.earlier none
    (subst (λ (u : List Update). KeepsLevel (take c.args.earlier u) u) c.deref.ensures (steady is)) values level was)
    c.is_steady_since.ensures.steady
