-- The sessions of a connection: what each holds, and how one is started and pinned (keynoted's own; the calls are those
-- of keynote(3)).
use Rattle.std.specs.Prelude.{ℕ, ◌+◌, Bool, ◌==◌, not, nat_le, List, [], ◌∷◌, ◌++◌, length, map, filter, find, Option}
use Rattle.std.specs.Prelude.{Some, None, option_map, is_none, if◌then◌else◌}
use Rattle.kn_base.specs.declared.limits.TheConstants.{SESSIONS}
use Rattle.kn_env.specs.Attributes.{Attribute}
use Rattle.kn_history.specs.declared.update.Update.{Update}
use Rattle.kn_history.specs.History.{NumberedText}
use Rattle.kn_session.specs.declared.fault.SessionFault.{SessionFault}
use Rattle.kn_session.specs.declared.fault.SessionFault.TheVariants as F

-- A query that a session keeps: the history of the version that it holds of, and the session's own assertions,
-- attributes and requesters as they were when it was kept, with the names of the compliance values.
pub record StandingQuery : Type 0 where
  pub pinned : List Update
  pub privates : List NumberedText
  pub attributes : List Attribute
  pub requesters : List (List ℕ)
  pub values : List (List ℕ)

-- A session of a connection. `pinned` is the history of the version that it is pinned to, and `made` counts the private
-- assertions that were ever added.
pub record Session : Type 0 where
  pub number : ℕ
  pub pinned : List Update
  pub privates : List NumberedText
  pub made : ℕ
  pub attributes : List Attribute
  pub requesters : List (List ℕ)
  pub standing : Option StandingQuery

-- how many sessions a connection started, and those that are open
pub record OpenSessions : Type 0 where
  pub started : ℕ
  pub sessions : List Session

-- the open session of this number
abbrev pub session_in : List Session → ℕ → Option Session
session_in sessions s = find (λ x. x.number == s) sessions

-- the session of this number, changed
abbrev pub with_changed : List Session → ℕ → (Session → Session) → List Session
with_changed sessions s change = map (λ x. if x.number == s then change x else x) sessions

-- the other sessions
abbrev pub without_session : List Session → ℕ → List Session
without_session sessions s = filter (λ x. not (x.number == s)) sessions

-- Faults: of each call the first that applies.

abbrev pub fault_if : Bool → SessionFault → Option SessionFault → Option SessionFault
fault_if b fault next = if b then Some fault else next

-- why no more session is started
abbrev pub start_fault : List Session → Option SessionFault
start_fault sessions = fault_if (nat_le SESSIONS (length sessions)) (F.Sessions (length sessions)) None

-- why the session of this number isn't changed: it isn't open, or for a fault of its own
abbrev pub fault_in : ℕ → Option Session → (Session → Option SessionFault) → Option SessionFault
fault_in s None fault = Some (F.Unknown s)
fault_in s (Some session) fault = fault session

-- Changes.

-- a new session
abbrev pub started_session : ℕ → List Update → Session
started_session number past = record {
  number = number;
  pinned = past;
  privates = [];
  made = 0;
  attributes = [];
  requesters = [];
  standing = None;
}

-- one more session, where so many were started before it
abbrev pub with_started : ℕ → List Session → List Update → List Session
with_started started sessions past = sessions ++ started_session (started + 1) past ∷ []

abbrev pub pin_at : List Update → Session → Session
pin_at past x = record x { pinned = past }

-- The standing query.

-- what a session asks where these are the compliance values
abbrev pub query_with : List (List ℕ) → Session → StandingQuery
query_with values x = record {
  pinned = x.pinned;
  privates = x.privates;
  attributes = x.attributes;
  requesters = x.requesters;
  values = values;
}

-- it is kept, in place of an earlier one
abbrev pub watch_with : List (List ℕ) → Session → Session
watch_with values x = record x { standing = Some (query_with values x) }

-- a query over the version of this history
abbrev pub query_at : List Update → StandingQuery → StandingQuery
query_at past query = record query { pinned = past }

-- the standing query is asked over this version from here on
abbrev pub move_standing : List Update → Session → Session
move_standing past x = record x { standing = option_map (query_at past) x.standing }

-- a session that asks with what a standing query was kept with
abbrev pub asker : StandingQuery → Session
asker query = record (started_session 0 query.pinned) {
  privates = query.privates;
  attributes = query.attributes;
  requesters = query.requesters;
}

-- why there is no standing query to ask or to end
abbrev pub standing_fault : Session → Option SessionFault
standing_fault x = fault_if (is_none x.standing) F.Absent None

abbrev pub end_standing : Session → Session
end_standing x = record x { standing = None }
