-- The query that a script of the line protocol means (keynoted's own).
use Rattle.std.specs.Prelude.{ℕ, ◌≡◌, List, Some}
use Rattle.kn_history.specs.declared.update.Update.{Update}
use Rattle.kn_wire.specs.Requests.{Request, AreRequests}
use Rattle.kn_session.specs.Sessions.{Session, session_in}
use Rattle.kn_daemon.specs.Played.{IsLastQuery}
use Rattle.kn_play.specs.declared.last_query.LastQuery.{LastQuery}

-- The requests of the script mean this query over the history: the session as it then stands, and the compliance
-- values.
pub record Means (history : List Update) (script : List ℕ) (session : Session) (values : List (List ℕ)) : Type 0 where
  pub requests : List Request
  pub rest : List ℕ
  pub whole : AreRequests script requests rest
  pub meant : IsLastQuery history requests session values

-- what was found is the query that the script means
abbrev pub IsFoundQuery : List Update → List ℕ → LastQuery → Type 0
IsFoundQuery history script m = (session : Session) × (session_in m.sessions.sessions m.session ≡ Some session)
    × Means history script session m.values

-- a script means one query at most
abbrev pub OneQueryOfScript : Type 0
OneQueryOfScript = (history : List Update) (script : List ℕ) (session other : Session) (values others : List (List ℕ))
    → Means history script session values → Means history script other others → (session ≡ other) × (values ≡ others)
