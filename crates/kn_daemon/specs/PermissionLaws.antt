-- Laws of what is permitted: of pins, of administrators and what they add, of sessions that begin and end, of batches,
-- and of what stands behind BYE.
use Rattle.std.specs.Prelude.{ℕ, ◌≡◌, ◌≢◌, ◌+◌, ◌≤◌, Bool, true, false, List, [], ◌∷◌, ◌++◌, length, take, All}
use Rattle.std.specs.Prelude.{Some, None, Ok, IsSomeAnd}
use Rattle.kn_trees.specs.declared.assertion.Assertion.{Assertion}
use Rattle.kn_assert.specs.Reading.{assertion_of}
use Rattle.kn_history.specs.declared.update.Update.{Update}
use Rattle.kn_history.specs.History.{additions, next_id}
use Rattle.kn_session.specs.Sessions.{pin_at, end_standing}
use Rattle.kn_session.specs.Calls as C
use Rattle.kn_wire.specs.Requests.{Request, Bye}
use Rattle.kn_wire.specs.Items.{BatchItem, items_of}
use Rattle.kn_reply.specs.declared.refusal.Refusal.{Refusal}
use Rattle.kn_reply.specs.declared.refusal.Refusal.TheVariants as R
use Rattle.kn_reply.specs.Replies.{Reply, Done, Started, Number, Added, Batched, PinnedAt}
use Rattle.kn_daemon.specs.declared.ended.Ended.{Ended}
use Rattle.kn_daemon.specs.Shapes.{Updating, AddText, ApplyBlock, Look, ForOpen, ForPin, ForPinAt, ForLog}
use Rattle.kn_daemon.specs.Shapes.{ShowSecret, Shape, Calls, Updates, Looks, Controls}
use Rattle.kn_daemon.specs.Daemon.{DaemonConfig, State, session_of, item_refusal, own_refusal, placed_refusal, Answers}
use Rattle.kn_daemon.specs.Daemon.{Permits}
use Rattle.kn_daemon.specs.Linearized.{requests_in}
use Rattle.kn_daemon.specs.Served.{IsServed}

-- A reply to PIN that tells a version tells that of its place, and the session is then pinned to it. Nothing else of
-- the session changes.
abbrev pub PinIsReported : Type 0
PinIsReported = (g : DaemonConfig) (caller : ℕ) (past : List Update) (old : State) (s version : ℕ) (new : State)
    → Permits g caller past old (Looks (ForPin s)) (Number version) new
    → (version ≡ length past)
    × IsSomeAnd (session_of old s) (λ x. session_of new s ≡ Some (pin_at past x))

-- One to PIN with a version tells that version, which is no later than the place, and the newest one. The session is
-- then pinned to the first so many updates.
abbrev pub RetainedPinIsReported : Type 0
RetainedPinIsReported = (g : DaemonConfig) (caller : ℕ) (past : List Update) (old : State) (s n version newest : ℕ)
    (new : State)
    → Permits g caller past old (Looks (ForPinAt s n)) (PinnedAt version newest) new
    → (version ≡ n) × (newest ≡ length past) × (n ≤ length past)
    × IsSomeAnd (session_of old s) (λ x. session_of new s ≡ Some (pin_at (take n past) x))

-- A connection without a right ADMIN is refused each update and LOG for that, before all else.
abbrev pub OthersAreRefused : Type 0
OthersAreRefused = (g : DaemonConfig) (state : State) (update : Updating) (n : ℕ) → state.is_admin ≡ false
    → (own_refusal g state (Updates update) ≡ Some R.Admin) × (own_refusal g state (Looks (ForLog n)) ≡ Some R.Admin)

-- Only ADMIN with the secret makes it an administrator's, and only where the secret isn't empty.
abbrev pub SecretMakesAdmin : Type 0
SecretMakesAdmin = (g : DaemonConfig) (caller : ℕ) (past : List Update) (old : State) (shape : Shape) (reply : Reply)
    (new : State)
    → Permits g caller past old shape reply new → old.is_admin ≡ false → new.is_admin ≡ true
    → (shape ≡ Controls (ShowSecret g.secret)) × (g.secret ≢ [])

-- Nothing takes that away.
abbrev pub AdminStays : Type 0
AdminStays = (g : DaemonConfig) (caller : ℕ) (past : List Update) (old : State) (shape : Shape) (reply : Reply)
    (new : State)
    → Permits g caller past old shape reply new → old.is_admin ≡ true → new.is_admin ≡ true

-- A text that ADD adds is admitted: the authenticator's number for it is 0.
abbrev pub AddedIsAdmitted : Type 0
AddedIsAdmitted = (g : DaemonConfig) (caller : ℕ) (past : List Update) (old : State) (text : List ℕ) (k version : ℕ)
    (new : State) (assertion : Assertion)
    → Permits g caller past old (Updates (AddText text)) (Added k version) new
    → assertion_of text ≡ Some assertion → g.verdict text assertion ≡ 0

-- So is each item of a batch.
abbrev pub BatchIsAdmitted : Type 0
BatchIsAdmitted = (g : DaemonConfig) (caller : ℕ) (past : List Update) (old : State) (block : List ℕ)
    (first added version : ℕ) (new : State) (items : List BatchItem)
    → Permits g caller past old (Updates (ApplyBlock block)) (Batched first added version) new
    → items_of block ≡ Ok items → All (λ item. item_refusal g item ≡ None) items

-- OPEN gives the number behind all that were given.
abbrev pub OpenIsNew : Type 0
OpenIsNew = (g : DaemonConfig) (caller : ℕ) (past : List Update) (old : State) (s version : ℕ) (new : State)
    → Permits g caller past old (Looks ForOpen) (Started s version) new
    → (s ≡ old.started + 1) × (new.started ≡ s) × (version ≡ length past)

-- Their count never falls, so no number is given twice.
abbrev pub StartedNeverFalls : Type 0
StartedNeverFalls = (g : DaemonConfig) (caller : ℕ) (past : List Update) (old : State) (shape : Shape) (reply : Reply)
    (new : State) → Permits g caller past old shape reply new → old.started ≤ new.started

-- Behind CLOSE the session isn't open.
abbrev pub CloseEnds : Type 0
CloseEnds = (g : DaemonConfig) (caller : ℕ) (past : List Update) (old : State) (s : ℕ) (new : State)
    → Permits g caller past old (Calls s C.Close) Done new → session_of new s ≡ None

-- Behind UNWATCH it has no standing query. Nothing else of it changes.
abbrev pub UnwatchEnds : Type 0
UnwatchEnds = (g : DaemonConfig) (caller : ℕ) (past : List Update) (old : State) (s : ℕ) (new : State)
    → Permits g caller past old (Calls s C.Unwatch) Done new
    → IsSomeAnd (session_of old s) (λ x. session_of new s ≡ Some (end_standing x))

-- A look that the history refuses isn't answered.
abbrev pub RefusedLookIsNotReported : Type 0
RefusedLookIsNotReported = (caller : ℕ) (past : List Update) (old : State) (look : Look) (refusal : Refusal)
    (reply : Reply) → placed_refusal past (Looks look) ≡ Some refusal → Answers caller past old (Looks look) reply → ⊥

-- The history ends with an update of so many additions. The first of them has this id, which is the next one behind
-- what is before the update, or would have it.
pub record EndsWithBatch (past : List Update) (first added : ℕ) : Type 0 where
  pub before : List Update
  pub update : Update
  pub ends : past ≡ before ++ update ∷ []
  pub first_is : first ≡ next_id before
  pub added_is : added ≡ additions update.changes

-- A reply to BATCH tells the id of its first addition, how many it has, and the version that it makes.
abbrev pub BatchTellsIds : Type 0
BatchTellsIds = (g : DaemonConfig) (caller : ℕ) (past : List Update) (old : State) (block : List ℕ)
    (first added version : ℕ) (new : State)
    → Permits g caller past old (Updates (ApplyBlock block)) (Batched first added version) new
    → EndsWithBatch past first added × (version ≡ length past)

-- What stands behind BYE isn't answered.
abbrev pub NothingBehindBye : Type 0
NothingBehindBye = (g : DaemonConfig) (taken written : List ℕ) (ended : Ended) (is_over : Bool) (history : List Update)
    (start end caller : ℕ) (stops : List ℕ)
    (served : IsServed g taken written ended is_over history start end caller stops)
    (front behind : List Request)
    → requests_in served.exchanges ≡ front ++ Bye ∷ behind → behind ≡ []
