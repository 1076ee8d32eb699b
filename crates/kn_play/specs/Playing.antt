-- A script that is being played.
use Rattle.std.specs.Prelude.{ℕ, ◌≡◌, ◌<◌, ◌≤◌, ◌^◌, false, List, [], ◌∷◌, ◌++◌, length, take, Option, Some, None}
use Rattle.std.specs.List.{list_any}
use Rattle.std.specs.Option.{option_map_or}
use Rattle.kn_history.specs.declared.update.Update.{Update}
use Rattle.kn_wire.specs.Requests.{Request, AreRequests, Takes}
use Rattle.kn_wire.specs.Feeding.{Held, held_bytes, with_piece, next_of, is_shut}
use Rattle.kn_session.specs.Sessions.{Session, OpenSessions, session_in}
use Rattle.kn_daemon.specs.Daemon.{State, first_state, session_of, own_refusal, state_after}
use Rattle.kn_daemon.specs.Played.{after_request, played, is_last, up_to_end, no_config, AsksOf, IsAsking}
use Rattle.kn_daemon.specs.Shapes.{Shape, shape_of}
use Rattle.kn_play.specs.declared.asking.Asked.{Asked}
use Rattle.kn_play.specs.declared.answering.Step.{Step}
use Rattle.kn_play.specs.declared.playing.AnsweredQuery.{AnsweredQuery}
use Rattle.kn_play.specs.declared.playing.Played.{Played}

-- a connection with these sessions, where ADMIN was never right
abbrev pub state_of_sessions : OpenSessions → State
state_of_sessions sessions = record { started = sessions.started; sessions = sessions.sessions; is_admin = false }

-- the state after a request of this shape over a version that nothing changes
abbrev pub after_shape : List Update → OpenSessions → Shape → State
after_shape history sessions shape =
    option_map_or (λ refusal. state_of_sessions sessions) (own_refusal no_config (state_of_sessions sessions) shape)
    (state_after history (state_of_sessions sessions) shape)

-- there is room for the numbers of one more session, and of one more private assertion in each
pub record NumbersGoOn (sessions : OpenSessions) : Type 0 where
  pub started : sessions.started < 2 ^ 31
  pub made : (s : ℕ) (session : Session) → session_in sessions.sessions s ≡ Some session → session.made < 2 ^ 31

-- the request asks no query that is answered with a value
abbrev pub IsNoAnsweredQuery : State → Request → Type 0
IsNoAnsweredQuery state request = (session : Session) (values : List (List ℕ)) → IsAsking state request session values
    → ⊥

-- a request of this shape asks this of an open session, or no query that is answered with a value
abbrev pub AsksFor : State → Shape → Option Asked → Type 0
AsksFor state shape None = (session : Session) (values : List (List ℕ)) → AsksOf state shape session values → ⊥
AsksFor state shape (Some asked) = (session : Session) × (session_of state asked.session ≡ Some session)
    × AsksOf state shape session asked.values

abbrev pub Asks : State → Request → Option Asked → Type 0
Asks state request asked = AsksFor state (shape_of request) asked

-- the request was played
pub record IsRequestPlayed (history : List Update) (old : OpenSessions) (request : Request) (new : OpenSessions)
    (step : Step) : Type 0 where
  pub state : state_of_sessions new ≡ after_shape history old (shape_of request)
  pub asks : Asks (state_of_sessions old) request step.asked
  pub last : step.is_last ≡ is_last request

-- the next request was spent and played, if there is a whole one
abbrev pub PlaysNext : List Update → OpenSessions → Held → OpenSessions → Held → Option Step → Type 0
PlaysNext history old held new after None = (next_of held ≡ None) × (after ≡ held) × (new ≡ old)
PlaysNext history old held new after (Some step) = (request : Request) × (next_of held ≡ Some (request, after))
    × IsRequestPlayed history old request new step

-- the first so many bytes of a script, and whatever follows them, begin with these requests
abbrev pub BeginsWith : List ℕ → ℕ → Held → List Request → Type 0
BeginsWith script from held requests = (more : List ℕ)
    → Takes (take from script ++ more) requests (held_bytes (with_piece held more))

-- the first so many bytes of a script were fed, these requests were taken, and more can be
pub record IsFed (script : List ℕ) (from : ℕ) (held : Held) (requests : List Request) : Type 0 where
  pub within : from ≤ length script
  pub begins : BeginsWith script from held requests
  pub not_shut : is_shut held ≡ false

-- one more request was taken
pub record TakesRequest (script : List ℕ) (requests : List Request) (from : ℕ) (held : Held) (request : Request) :
    Type 0 where
  pub within : from ≤ length script
  pub begins : BeginsWith script from held (requests ++ request ∷ [])
  pub not_shut : is_last request ≡ false → is_shut held ≡ false

-- the whole script was fed, and no whole request is left
pub record IsSpent (script : List ℕ) (requests : List Request) (from : ℕ) (held : Held) : Type 0 where
  pub all : from ≡ length script
  pub fed : IsFed script from held requests
  pub none : next_of held ≡ None

-- one more request was taken and played
pub record TakesOne (history : List Update) (script : List ℕ) (requests : List Request) (old : OpenSessions) (from : ℕ)
    (held : Held) (new : OpenSessions) (step : Step) : Type 0 where
  pub request : Request
  pub taken : TakesRequest script requests from held request
  pub played : IsRequestPlayed history old request new step

-- no whole request is left to be played
pub record IsScriptRead (script : List ℕ) (requests : List Request) (old : OpenSessions) (from : ℕ) (held : Held)
    (new : OpenSessions) : Type 0 where
  pub spent : IsSpent script requests from held
  pub same : new ≡ old

abbrev pub Next : List Update → List ℕ → List Request → OpenSessions → ℕ → Held → OpenSessions → Option Step → Type 0
Next history script requests old from held new None = IsScriptRead script requests old from held new
Next history script requests old from held new (Some step) = TakesOne history script requests old from held new step

-- these are the requests of a script up to their end
pub record AreUpToEnd (script : List ℕ) (requests : List Request) : Type 0 where
  pub all : List Request
  pub rest : List ℕ
  pub whole : AreRequests script all rest
  pub end : up_to_end all ≡ requests

-- none of the requests is a query that is answered with a value, where this was the state before them
abbrev pub AskNothing : List Update → State → List Request → Type 0
AskNothing history state [] = Unit {0}
AskNothing history state (request ∷ requests) = IsNoAnsweredQuery state request
    × AskNothing history (after_request no_config history state request) requests

-- the last query among requests that is answered with a value
pub record IsLast (history : List Update) (requests : List Request) (q : AnsweredQuery) : Type 0 where
  pub front : List Request
  pub query : Request
  pub behind : List Request
  pub cut : requests ≡ front ++ query ∷ behind
  pub before : q.before ≡ length front
  pub asks : Asks (played no_config history first_state front) query (Some q.asked)
  pub last : AskNothing history (played no_config history first_state (front ++ query ∷ [])) behind

abbrev pub HasLast : List Update → List Request → Option AnsweredQuery → Type 0
HasLast history requests None = AskNothing history first_state requests
HasLast history requests (Some last) = IsLast history requests last

-- the last query, where this is what the request behind so many others asks
abbrev pub later_of : Option AnsweredQuery → ℕ → Option Asked → Option AnsweredQuery
later_of last before None = last
later_of last before (Some asked) = Some (record { before = before; asked = asked })

-- the first so many requests of a script, up to their end, were played
pub record IsPlayed (history : List Update) (script : List ℕ) (most : ℕ) (p : Played) : Type 0 where
  pub requests : List Request
  pub these : AreUpToEnd script requests
  pub state : state_of_sessions p.sessions ≡ played no_config history first_state (take most requests)
  pub last : HasLast history (take most requests) p.last

-- these requests were taken and played, and none of them is the last
pub record IsBeingPlayed (history : List Update) (script : List ℕ) (from : ℕ) (held : Held) (requests : List Request)
    (sessions : OpenSessions) (found : Option AnsweredQuery) (count : ℕ) : Type 0 where
  pub fed : IsFed script from held requests
  pub goes_on : list_any is_last requests ≡ false
  pub state : state_of_sessions sessions ≡ played no_config history first_state requests
  pub last : HasLast history requests found
  pub size : length requests ≡ count
