-- Laws of transcripts.
use Rattle.std.specs.Prelude.{ℕ, ◌≡◌, ◌≤◌, ◌<◌, ◌^◌, List, ◌∷◌, ◌++◌, length, map, Some, Result, Ok, Err}
use Rattle.kn_env.specs.Values.{values_of}
use Rattle.kn_trees.specs.declared.assertion.Assertion.{Assertion}
use Rattle.kn_proof.specs.declared.named.NamedRow.{NamedRow}
use Rattle.kn_meaning.specs.Equations.{IsPolicyLevel}
use Rattle.kn_history.specs.declared.update.Update.{Update}
use Rattle.kn_wire.specs.Requests.{Request}
use Rattle.kn_reply.specs.Replies.{Value}
use Rattle.kn_session.specs.Sessions.{Session}
use Rattle.kn_daemon.specs.Shapes.{Asks, WithProof, shape_of}
use Rattle.kn_daemon.specs.Daemon.{DaemonConfig, State, first_state, session_of, equations_of}
use Rattle.kn_daemon.specs.Linearized.{Exchange}
use Rattle.kn_daemon.specs.Alone.{RunsAlone}
use Rattle.kn_transcript.specs.declared.fault.TheConstants.{AUTH_FAULTS}
use Rattle.kn_transcript.specs.declared.fault.TranscriptFault.{TranscriptFault}
use Rattle.kn_transcript.specs.Followed.{Answered, Follows}
use Rattle.kn_transcript.specs.Accepted.{IsAcceptedTranscript}
use Rattle.kn_transcript.specs.Faulty.{IsFaultyTranscript}

abbrev pub answered_of : Exchange → Answered
answered_of e = record { request = e.request; reply = e.reply }

-- what a daemon of one thread replies to a connection that is alone is followed
abbrev pub RunsAreFollowed : Type 0
RunsAreFollowed =
    (g : DaemonConfig) (past : List Update) (old : State) (exchanges : List Exchange) (history : List Update)
    (new : State)
    → ((text : List ℕ) (assertion : Assertion) → g.verdict text assertion ≤ AUTH_FAULTS)
    → RunsAlone g 0 past old exchanges history new → Follows past old (map answered_of exchanges) history new

-- Behind these replies a request is a QUERY on an open session, and this is the policy's level in the least fixed
-- point of what the session then asks.
pub record IsLeastBehind (past : List Update) (old : State) (front : List Answered) (request : Request)
    (index : ℕ) : Type 0 where
  pub history : List Update
  pub state : State
  pub session : Session
  pub s : ℕ
  pub names : List ℕ
  pub values : List (List ℕ)
  pub reached : Follows past old front history state
  pub asked : shape_of request ≡ Asks WithProof s names
  pub found : session_of state s ≡ Some session
  pub named : values_of names ≡ Some values
  pub least : IsPolicyLevel (equations_of session values) index

-- each reply that gives a value gives the least one over the history that the replies before it tell
abbrev pub ValuesAreLeast : Type 0
ValuesAreLeast = (past : List Update) (old : State) (front behind : List Answered) (request : Request) (index : ℕ)
    (name : List ℕ) (version : ℕ) (rows : List NamedRow) (history : List Update) (new : State)
    → Follows past old (front ++ record { request = request; reply = Value index name version rows } ∷ behind)
    history new
    → IsLeastBehind past old front request index

-- these are the first updates of the history
abbrev pub IsVersionOf : List Update → List Update → Type 0
IsVersionOf history version = (later : List Update) × (history ≡ version ++ later)

-- The version that an open session is pinned to is one of the history that the replies tell. So a value is the least
-- one over that version of this history.
abbrev pub VersionsAreReported : Type 0
VersionsAreReported = (past : List Update) (answered : List Answered) (history : List Update) (state : State) (s : ℕ)
    (session : Session)
    → Follows past first_state answered history state → session_of state s ≡ Some session
    → IsVersionOf history session.pinned

-- the transcript is accepted, so many replies give a value, and then there are so many updates; or this is its fault
abbrev pub HasVerdict : List Update → List ℕ → List ℕ → Result (ℕ × ℕ) TranscriptFault → Type 0
HasVerdict past script replies (Ok counts) = IsAcceptedTranscript past script replies counts.0 counts.1
HasVerdict past script replies (Err fault) = IsFaultyTranscript past script replies fault

-- a transcript that code may hold has one verdict at most
abbrev pub OneVerdict : Type 0
OneVerdict = (past : List Update) (script replies : List ℕ) (verdict other : Result (ℕ × ℕ) TranscriptFault)
    → length replies < 2 ^ 64 → HasVerdict past script replies verdict → HasVerdict past script replies other
    → verdict ≡ other
