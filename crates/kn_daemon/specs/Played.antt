-- Playing requests on the daemon of one thread (keynoted's own): each at one place of one history, and none is answered
-- by `NoMemory`.
use Rattle.std.specs.Prelude.{ℕ, ◌≡◌, List, [], ◌∷◌, ◌++◌, Bool, ◌||◌, Some, if◌then◌else◌}
use Rattle.std.specs.Option.{option_map_or}
use Rattle.kn_env.specs.Values.{values_of}
use Rattle.kn_history.specs.declared.update.Update.{Update}
use Rattle.kn_wire.specs.Requests.{Request}
use Rattle.kn_daemon.specs.Shapes.{WithProof, Shape, Asks, shape_of}
use Rattle.kn_daemon.specs.Daemon.{DaemonConfig, State, first_state, session_of, own_refusal, state_after}
use Rattle.kn_session.specs.Sessions.{Session}
use Rattle.kn_daemon.specs.Served.{is_bye, is_block}

-- The state after a request: a refused one changes nothing. An update changes no state, LOG changes none either, and a
-- version that isn't retained pins nothing, so what refuses these by the history doesn't matter here.
abbrev pub after_request : DaemonConfig → List Update → State → Request → State
after_request g past state request =
    option_map_or (λ refusal. state) (own_refusal g state (shape_of request))
    (state_after past state (shape_of request))

-- the state after these requests
abbrev pub played : DaemonConfig → List Update → State → List Request → State
played g past state [] = state
played g past state (request ∷ requests) = played g past (after_request g past state request) requests

-- BYE and a refused block end a connection
abbrev pub is_last : Request → Bool
is_last request = is_bye request || is_block request

-- the requests to the one that ends the connection
abbrev pub up_to_end : List Request → List Request
up_to_end [] = []
up_to_end (request ∷ requests) = if is_last request then request ∷ [] else request ∷ up_to_end requests

-- Without a key file the secret is empty, so ADMIN is never right and no verdict is asked for: which number stands here
-- doesn't matter.
abbrev pub no_config : DaemonConfig
no_config = record { secret = []; verdict = λ text a. 1 }

-- the session is open, and the text names these values
abbrev pub AsksOf : State → Shape → Session → List (List ℕ) → Type 0
AsksOf state (Asks WithProof s names) session values =
    (session_of state s ≡ Some session) × (values_of names ≡ Some values)
AsksOf state shape session values = ⊥

-- the request is a QUERY that is answered with a value
abbrev pub IsAsking : State → Request → Session → List (List ℕ) → Type 0
IsAsking state request session values = AsksOf state (shape_of request) session values

-- The query that requests mean over a history, without a secret: the last QUERY up to their end that is answered with a
-- value, and the session as it then stands.
pub record IsLastQuery (history : List Update) (requests : List Request) (session : Session)
    (values : List (List ℕ)) : Type 0 where
  pub front : List Request
  pub query : Request
  pub behind : List Request
  pub cut : up_to_end requests ≡ front ++ query ∷ behind
  pub asking : IsAsking (played no_config history first_state front) query session values
  pub last : (between : List Request) (other : Request) (rest : List Request) (s : Session) (v : List (List ℕ))
      → behind ≡ between ++ other ∷ rest
      → IsAsking (played no_config history first_state (front ++ query ∷ between)) other s v → ⊥
