-- Laws of questions: of standing queries, of critical assertions, and of the one level that they tell.
use Rattle.std.specs.Prelude.{ℕ, ◌≡◌, ◌≢◌, ◌<◌, ◌≤◌, List, length, Option, Some, None, IsSomeAnd, is_none, option_map}
use Rattle.std.specs.Prelude.{if◌then◌else◌}
use Rattle.kn_base.specs.declared.limits.TheConstants.{CRITICAL_NODES}
use Rattle.kn_env.specs.Values.{values_of}
use Rattle.kn_proof.specs.declared.named.Id.{Id}
use Rattle.kn_proof.specs.declared.named.NamedRow.{NamedRow}
use Rattle.kn_meaning.specs.Critical.{equation_nodes}
use Rattle.kn_history.specs.declared.update.Update.{Update}
use Rattle.kn_session.specs.Sessions.{StandingQuery, Session, query_at, watch_with, move_standing}
use Rattle.kn_session.specs.Calls as C
use Rattle.kn_session.specs.Laws.{standing_in}
use Rattle.kn_reply.specs.declared.refusal.Refusal.TheVariants as R
use Rattle.kn_reply.specs.declared.refusal.LimitWord.TheVariants as W
use Rattle.kn_reply.specs.Replies.{Reply, Value, News, Critical, No}
use Rattle.kn_daemon.specs.Shapes.{ForNews, Question, WithProof, WithCritical, ToKeep, Shape, Calls, Looks, Asks}
use Rattle.kn_daemon.specs.Daemon.{DaemonConfig, State, session_of, equations_of, own_refusal, IsNews, Permits}

-- the standing query of the open session of this number, if it has one
abbrev pub standing_of : State → ℕ → Option StandingQuery
standing_of state s = standing_in state.sessions s

-- A NEWS reply to NEWS tells the version of its place, over which the standing query is asked from then on, and the
-- standing query's level there.
abbrev pub NewsIsOfPlace : Type 0
NewsIsOfPlace = (g : DaemonConfig) (caller : ℕ) (past : List Update) (old : State) (s index : ℕ) (name : List ℕ)
    (version : ℕ) (new : State)
    → Permits g caller past old (Looks (ForNews s)) (News index name version) new
    → (version ≡ length past) × (standing_of new s ≡ option_map (query_at past) (standing_of old s))
    × IsSomeAnd (standing_of new s) (λ query. IsNews query (News index name version))

-- One to WATCH tells the version that the session is pinned to, and the level there of what is kept from then on.
abbrev pub WatchIsOfPin : Type 0
WatchIsOfPin = (g : DaemonConfig) (caller : ℕ) (past : List Update) (old : State) (s : ℕ) (names : List ℕ) (index : ℕ)
    (name : List ℕ) (version : ℕ)
    (new : State) → Permits g caller past old (Asks ToKeep s names) (News index name version) new
    → IsSomeAnd (session_of old s) (λ x. version ≡ length x.pinned)
    × IsSomeAnd (standing_of new s) (λ query. IsNews query (News index name version))

-- what a standing query asks, and over which version, stays as it was in all that is permitted but CLOSE, UNWATCH,
-- WATCH and NEWS of its session
abbrev pub StandingQueryStays : Type 0
StandingQueryStays = (g : DaemonConfig) (caller : ℕ) (past : List Update) (old : State) (shape : Shape) (reply : Reply)
    (new : State) (s : ℕ)
    → Permits g caller past old shape reply new
    → shape ≢ Calls s C.Close → shape ≢ Calls s C.Unwatch → ((names : List ℕ) → shape ≢ Asks ToKeep s names)
    → shape ≢ Looks (ForNews s)
    → standing_of new s ≡ standing_of old s

-- WATCH tells the level, its name and the version that QUERY tells in the same state
abbrev pub WatchTellsTheValue : Type 0
WatchTellsTheValue =
    (g : DaemonConfig) (caller : ℕ) (past : List Update) (old new after : State) (s : ℕ) (names : List ℕ)
    (index : ℕ) (name : List ℕ)
    (version : ℕ) (rows : List NamedRow) (level : ℕ) (text : List ℕ) (number : ℕ)
    → Permits g caller past old (Asks WithProof s names) (Value index name version rows) new
    → Permits g caller past old (Asks ToKeep s names) (News level text number) after
    → (level ≡ index) × (text ≡ name) × (number ≡ version)

-- and CRITICAL that level
abbrev pub CriticalTellsTheValue : Type 0
CriticalTellsTheValue =
    (g : DaemonConfig) (caller : ℕ) (past : List Update) (old new after : State) (s : ℕ) (names : List ℕ)
    (index : ℕ)
    (name : List ℕ) (version : ℕ) (rows : List NamedRow) (level : ℕ) (ids : List Id)
    → Permits g caller past old (Asks WithProof s names) (Value index name version rows) new
    → Permits g caller past old (Asks WithCritical s names) (Critical level ids) after
    → level ≡ index

-- and so does NEWS what QUERY tells of a session that has what was kept and is pinned to the version of its place
abbrev pub NewsTellsTheValue : Type 0
NewsTellsTheValue = (g : DaemonConfig) (caller : ℕ) (past : List Update) (old new after : State) (session : Session)
    (values : List (List ℕ)) (s : ℕ)
    (names : List ℕ) (index : ℕ) (name : List ℕ) (version : ℕ) (rows : List NamedRow) (level : ℕ) (text : List ℕ)
    (number : ℕ)
    → session_of old s ≡ Some session → values_of names ≡ Some values
    → move_standing past session ≡ watch_with values session
    → Permits g caller past old (Asks WithProof s names) (Value index name version rows) new
    → Permits g caller past old (Looks (ForNews s)) (News level text number) after
    → (level ≡ index) × (text ≡ name) × (number ≡ version)

-- and CRITICAL has one answer
abbrev pub CriticalIsOne : Type 0
CriticalIsOne = (g : DaemonConfig) (caller : ℕ) (past : List Update) (old new after : State) (s : ℕ) (names : List ℕ)
    (level index : ℕ) (ids others : List Id)
    → Permits g caller past old (Asks WithCritical s names) (Critical level ids) new
    → Permits g caller past old (Asks WithCritical s names) (Critical index others) after
    → (level ≡ index) × (ids ≡ others)

-- where CRITICAL is answered, the query has no more nodes than the limit
abbrev pub CriticalIsSmall : Type 0
CriticalIsSmall = (g : DaemonConfig) (caller : ℕ) (past : List Update) (old new : State) (s : ℕ) (names : List ℕ)
    (level : ℕ)
    (ids : List Id) → Permits g caller past old (Asks WithCritical s names) (Critical level ids) new
    → IsSomeAnd (session_of old s)
    (λ x. IsSomeAnd (values_of names) (λ values. equation_nodes (equations_of x values) ≤ CRITICAL_NODES))

-- and where it is refused for its nodes, it has more, and their number is named
abbrev pub CriticalIsLarge : Type 0
CriticalIsLarge = (g : DaemonConfig) (caller : ℕ) (past : List Update) (old new : State) (s : ℕ) (names : List ℕ)
    (n : ℕ)
    → Permits g caller past old (Asks WithCritical s names) (No (R.Limit W.Nodes n)) new
    → IsSomeAnd (session_of old s) (λ x. IsSomeAnd (values_of names)
    (λ values. (n ≡ equation_nodes (equations_of x values)) × (CRITICAL_NODES < n)))

-- A session that isn't open refuses questions, NEWS and UNWATCH before all else.
abbrev pub ClosedIsRefused : Type 0
ClosedIsRefused = (g : DaemonConfig) (state : State) (s : ℕ) (question : Question) (names : List ℕ)
    → session_of state s ≡ None
    → (own_refusal g state (Asks question s names) ≡ Some R.Session)
    × (own_refusal g state (Looks (ForNews s)) ≡ Some R.Session)
    × (own_refusal g state (Calls s C.Unwatch) ≡ Some R.Session)

-- Names that are no compliance values are refused next.
abbrev pub NamesAreRefused : Type 0
NamesAreRefused = (g : DaemonConfig) (state : State) (s : ℕ) (session : Session) (question : Question) (names : List ℕ)
    → session_of state s ≡ Some session → values_of names ≡ None
    → own_refusal g state (Asks question s names) ≡ Some R.Values

-- NEWS and UNWATCH are refused exactly where there is no standing query.
abbrev pub NoneStandingIsRefused : Type 0
NoneStandingIsRefused = (g : DaemonConfig) (state : State) (s : ℕ) (session : Session)
    → session_of state s ≡ Some session
    → (own_refusal g state (Looks (ForNews s)) ≡ (if is_none session.standing then Some R.Unknown else None))
    × (own_refusal g state (Calls s C.Unwatch) ≡ (if is_none session.standing then Some R.Unknown else None))
