-- A question that is answered is kept, and another one isn't.
use Rattle.std.proofs.Common.{◌≡◌, ℕ, Some, List, ap}
use Rattle.kn_env.specs.Values.{values_of}
use Rattle.kn_history.specs.declared.update.Update.{Update}
use Rattle.kn_session.specs.Sessions.{Session, OpenSessions, session_in, watch_with}
use Rattle.kn_session.specs.Connection.{with_open_session}
use Rattle.kn_daemon.specs.Shapes.{Asks, ToKeep}
use Rattle.kn_play.specs.Playing.{state_of_sessions, after_shape}

pub asked-kept : (history : List Update) (old new : OpenSessions) (s : ℕ) (names : List ℕ) (session : Session)
    (values : List (List ℕ))
    → session_in old.sessions s ≡ Some session → values_of names ≡ Some values
    → new ≡ with_open_session old s (watch_with values)
    → state_of_sessions new ≡ after_shape history old (Asks ToKeep s names)
asked-kept history old new s names session values found named is = rw found (rw named (ap state_of_sessions is))
