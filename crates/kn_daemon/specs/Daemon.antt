-- The sequential specification: what a daemon of one thread may reply (keynoted's own; the calls are those of
-- keynote(3)). Requests are known by their shape, which has its cases in `own_refusal`, `placed_refusal`,
-- `state_after`, `Answers` and `may_lack_memory`; where the last equation of one is for all other shapes, nothing is
-- refused there, nothing changes, and memory doesn't run out.
use Rattle.std.specs.Prelude.{ℕ, ◌≡◌, ◌+◌, ◌≤◌, Bool, true, false, ◌==◌, ◌&&◌, not, nat_lt, List, [], ◌∷◌, ◌++◌, length}
use Rattle.std.specs.Prelude.{map, slice_index_or, Option, Some, None, option_map, option_and_then, is_none}
use Rattle.std.specs.Prelude.{IsSome, IsSomeAnd, Result, Ok, Err, if◌then◌else◌}
use Rattle.std.specs.Option.{option_or}
use Rattle.std.specs.Str.{bytes_eq}
use Rattle.kn_base.specs.declared.limits.TheConstants.{CRITICAL_NODES}
use Rattle.kn_env.specs.Values.{values_of}
use Rattle.kn_trees.specs.declared.assertion.Assertion.{Assertion}
use Rattle.kn_assert.specs.Reading.{reading_of}
use Rattle.kn_fields.specs.Numbers.{fault_number, fault_place}
use Rattle.kn_fields.specs.declared.fault.ReadFault.{ReadFault}
use Rattle.kn_proof.specs.declared.named.Id.{Id}
use Rattle.kn_proof.specs.declared.named.NamedRow.{NamedRow}
use Rattle.kn_meaning.specs.Critical.{AreCritical, equation_nodes}
use Rattle.kn_meaning.specs.Equations.{IsPolicyLevel}
use Rattle.kn_meaning.specs.Proofs.{IsProof}
use Rattle.kn_history.specs.declared.update.Update.{Update}
use Rattle.kn_history.specs.declared.item.Item.{Item}
use Rattle.kn_history.specs.declared.fault.StoreFault.{StoreFault}
use Rattle.kn_history.specs.declared.fault.StoreFault.TheVariants as U
use Rattle.kn_history.specs.History.{all_changes, additions}
use Rattle.kn_history.specs.History.{refusal_of_text as fault_of_addition, refusal_of_id as fault_of_removal}
use Rattle.kn_history.specs.History.{update_may_follow, addition_by, removal_by}
use Rattle.kn_history.specs.Batches.{refusal_of_items, numbered_from, batch_by}
use Rattle.kn_history.specs.Retained.{retained_version}
pub use Rattle.kn_session.specs.Asking.{part_by, parts_of, session_parts, asked_of, equations_of}
use Rattle.kn_session.specs.declared.fault.SessionFault.{SessionFault}
use Rattle.kn_session.specs.declared.fault.SessionFault.TheVariants as S
use Rattle.kn_session.specs.Sessions.{StandingQuery, Session, session_in, with_changed, with_started, start_fault}
use Rattle.kn_session.specs.Sessions.{pin_at, query_with, watch_with, query_at, move_standing, asker, standing_fault}
use Rattle.kn_session.specs.Calls.{Call, Assert, private_fault, session_fault, after_call, call_may_lack_memory}
use Rattle.kn_wire.specs.declared.fault.WireFault.{WireFault}
use Rattle.kn_wire.specs.declared.fault.WireFault.TheVariants as F
use Rattle.kn_wire.specs.Items.{BatchItem, items_of}
use Rattle.kn_wire.specs.Items as B
use Rattle.kn_reply.specs.declared.refusal.Refusal.{Refusal}
use Rattle.kn_reply.specs.declared.refusal.Refusal.TheVariants as R
use Rattle.kn_reply.specs.declared.refusal.ItemRefusal.{ItemRefusal}
use Rattle.kn_reply.specs.declared.refusal.ItemRefusal.TheVariants as I
use Rattle.kn_reply.specs.declared.refusal.LimitWord.{LimitWord}
use Rattle.kn_reply.specs.declared.refusal.LimitWord.TheVariants as W
use Rattle.kn_reply.specs.Logs.{item_of}
use Rattle.kn_daemon.specs.Shapes.{AddText, DropId, ApplyBlock, ForOpen, ForPin, ForPinAt, ForNews, ForLog, Question}
use Rattle.kn_daemon.specs.Shapes.{WithProof, WithCritical, ToKeep, ShowSecret, Leave, Shape, Calls, Updates, Looks}
use Rattle.kn_daemon.specs.Shapes.{Asks, Controls, AtFault}
use Rattle.kn_reply.specs.Replies.{Reply, Done, Started, Number, PrivateAdded, Added, Value, Batched, PinnedAt, Log}
use Rattle.kn_reply.specs.Replies.{News, Critical, No, NoMemory}

-- what the daemon is started with: the administrators' secret, and the authenticator's number for a text, 0 where it is
-- admitted
pub record DaemonConfig : Type 0 where
  pub secret : List ℕ
  pub verdict : List ℕ → Assertion → ℕ

-- a connection: how many sessions it started, those that are open, and whether ADMIN was right
pub record State : Type 0 where
  pub started : ℕ
  pub sessions : List Session
  pub is_admin : Bool

abbrev pub first_state : State
first_state = record { started = 0; sessions = []; is_admin = false }

abbrev pub session_of : State → ℕ → Option Session
session_of state s = session_in state.sessions s

-- the session of this number, changed
abbrev pub with_session : State → ℕ → (Session → Session) → State
with_session state s change = record state { sessions = with_changed state.sessions s change }

-- Refusals by the state alone: of each request the first that applies.

abbrev pub refuse_if : Bool → Refusal → Option Refusal → Option Refusal
refuse_if b refusal next = if b then Some refusal else next

abbrev pub refusal_of_fault : WireFault → Refusal
refusal_of_fault F.Syntax = R.Syntax
refusal_of_fault F.Command = R.Command
refusal_of_fault F.Long = R.Long
refusal_of_fault (F.Block n) = R.Block

-- the refusal that a fault of the sessions is; none when out of memory
abbrev pub refusal_of_session : SessionFault → Option Refusal
refusal_of_session (S.Unknown s) = Some R.Session
refusal_of_session (S.Sessions count) = Some (R.Limit W.Sessions count)
refusal_of_session (S.Privates count) = Some (R.Limit W.Private count)
refusal_of_session (S.PrivateBytes bytes) = Some (R.Limit W.PrivateBytes bytes)
refusal_of_session (S.NoSuch id) = Some R.Unknown
refusal_of_session (S.Requesters count) = Some (R.Limit W.Requesters count)
refusal_of_session S.Principal = Some R.Principal
refusal_of_session S.ByPolicy = Some R.Policy
refusal_of_session S.Name = Some R.Name
refusal_of_session S.Value = Some R.Value
refusal_of_session (S.Attributes count) = Some (R.Limit W.Attributes count)
refusal_of_session S.Absent = Some R.Unknown
refusal_of_session S.NoMemory = None

abbrev pub refusal_by : Option SessionFault → Option Refusal
refusal_by fault = option_and_then refusal_of_session fault

-- what refuses a request to a session: that it isn't open, or else a refusal of its own
abbrev pub in_session : Option Session → (Session → Option Refusal) → Option Refusal
in_session None refusal = Some R.Session
in_session (Some session) refusal = refusal session

-- The refusal that the fault of a text is, however it is reported: of a request, or of an item of a batch. None when
-- out of memory.
abbrev pub refusal_at_text : {X : Type 0} → (ℕ → ℕ → X) → ReadFault → Option X
refusal_at_text report fault = option_map (λ number. report number (fault_place fault)) (fault_number fault)

-- a text that has no reading is refused by its first fault, which is never `NoMemory`
abbrev pub refusal_at_reading : {X : Type 0} → (ℕ → ℕ → X) → Result Assertion ReadFault → (Assertion → Option X)
    → Option X
refusal_at_reading report (Ok assertion) next = next assertion
refusal_at_reading report (Err fault) next = refusal_at_text report fault

abbrev pub is_secret : List ℕ → List ℕ → Bool
is_secret secret bytes = nat_lt 0 (length secret) && bytes_eq secret bytes

-- what the authenticator's number refuses, however it is reported
abbrev pub refusal_at_verdict : {X : Type 0} → (ℕ → X) → ℕ → Option X
refusal_at_verdict report number = if not (number == 0) then Some (report number) else None

-- why an item of a batch isn't admitted: its text has a fault, or the authenticator has one
abbrev pub item_refusal : DaemonConfig → BatchItem → Option ItemRefusal
item_refusal g (B.AddText text) =
    refusal_at_reading I.Read (reading_of text) (λ a. refusal_at_verdict I.Auth (g.verdict text a))
item_refusal g (B.DropId k) = None

-- the first item that isn't admitted, where they are counted from this number
abbrev pub refusal_from : DaemonConfig → ℕ → List BatchItem → Option Refusal
refusal_from g number [] = None
refusal_from g number (item ∷ items) =
    option_or (option_map (R.Item number) (item_refusal g item)) (refusal_from g (number + 1) items)

-- the items of a block, where it has their form
abbrev pub read_items : Result (List BatchItem) ℕ → Option (List Item)
read_items (Ok items) = Some (map item_of items)
read_items (Err number) = None

-- a block that departs from the form of items is refused for that, and else for the first item that isn't admitted,
-- counted from 1
abbrev pub refusal_of_block : DaemonConfig → Result (List BatchItem) ℕ → Option Refusal
refusal_of_block g (Ok items) = refusal_from g 1 items
refusal_of_block g (Err number) = Some (R.Batch number)

-- What refuses a call of an open session; none when out of memory. An assertion is judged once its text is read.
abbrev pub refusal_of_call : Call → Session → Option Refusal
refusal_of_call (Assert text) session =
    refusal_at_reading R.Read (reading_of text) (λ a. refusal_by (private_fault text a session))
refusal_of_call call session = refusal_by (session_fault call session)

-- More nodes than the critical assertions of a query are looked for in are refused: the number of nodes is named.
abbrev pub refusal_of_nodes : ℕ → Option Refusal
refusal_of_nodes nodes = refuse_if (nat_lt CRITICAL_NODES nodes) (R.Limit W.Nodes nodes) None

-- only the search for critical assertions has a limit
abbrev pub refusal_of_question : Question → Session → List (List ℕ) → Option Refusal
refusal_of_question WithCritical session values = refusal_of_nodes (equation_nodes (equations_of session values))
refusal_of_question question session values = None

-- names that are no compliance values are refused before the question itself is
abbrev pub refusal_of_names : Option (List (List ℕ)) → (List (List ℕ) → Option Refusal) → Option Refusal
refusal_of_names None next = Some R.Values
refusal_of_names (Some values) next = next values

-- What the state refuses of a request. Updates are made by administrators alone, and shown to them alone.
abbrev pub own_refusal : DaemonConfig → State → Shape → Option Refusal
own_refusal g state (Calls s call) = in_session (session_of state s) (refusal_of_call call)
own_refusal g state (Updates (AddText text)) = refuse_if (not state.is_admin) R.Admin
    (refusal_at_reading R.Read (reading_of text) (λ a. refusal_at_verdict R.Auth (g.verdict text a)))
own_refusal g state (Updates (DropId k)) = refuse_if (not state.is_admin) R.Admin None
own_refusal g state (Updates (ApplyBlock block)) =
    refuse_if (not state.is_admin) R.Admin (refusal_of_block g (items_of block))
own_refusal g state (Looks ForOpen) = refusal_by (start_fault state.sessions)
own_refusal g state (Looks (ForPin s)) = in_session (session_of state s) (λ x. None)
own_refusal g state (Looks (ForPinAt s version)) = in_session (session_of state s) (λ x. None)
own_refusal g state (Looks (ForNews s)) = in_session (session_of state s) (λ x. refusal_by (standing_fault x))
own_refusal g state (Looks (ForLog n)) = refuse_if (not state.is_admin) R.Admin None
own_refusal g state (Asks question s names) =
    in_session (session_of state s) (λ x. refusal_of_names (values_of names) (refusal_of_question question x))
own_refusal g state (Controls (ShowSecret bytes)) = refuse_if (not (is_secret g.secret bytes)) R.Admin None
own_refusal g state (Controls Leave) = None
own_refusal g state (AtFault fault) = Some (refusal_of_fault fault)

-- Refusals by the history before the request.

-- the refusal that a fault of the store is, however it is reported: of a request, or of an item of a batch; none
-- when out of memory
abbrev pub refusal_at_store : {X : Type 0} → X → (LimitWord → ℕ → X) → StoreFault → Option X
refusal_at_store unknown limit (U.Unknown id) = Some unknown
refusal_at_store unknown limit (U.LiveFull count) = Some (limit W.Live count)
refusal_at_store unknown limit (U.BytesFull bytes) = Some (limit W.LiveBytes bytes)
refusal_at_store unknown limit (U.HistoryFull updates) = Some (limit W.Updates updates)
refusal_at_store unknown limit (U.LogFull bytes) = Some (limit W.LogBytes bytes)
refusal_at_store unknown limit U.NoMemory = None

abbrev pub refusal_of_store : StoreFault → Option Refusal
refusal_of_store fault = refusal_at_store R.Unknown R.Limit fault

-- the refusal that the fault of the item of this number is
abbrev pub refusal_of_item_fault : ℕ → StoreFault → Option Refusal
refusal_of_item_fault number fault = option_map (R.Item number) (refusal_at_store I.Unknown I.Limit fault)

-- the refusal of the first item that the history refuses behind those in front of it
abbrev pub refusal_of_batch : List Update → List Item → Option Refusal
refusal_of_batch past items =
    option_and_then (λ found. refusal_of_item_fault found.0 found.1) (refusal_of_items (all_changes past) items)

-- What the history refuses of a request. Where a version isn't retained, or LOG's n is more than the number of updates,
-- the newest version is named.
abbrev pub placed_refusal : List Update → Shape → Option Refusal
placed_refusal past (Updates (AddText text)) =
    option_and_then refusal_of_store (fault_of_addition (all_changes past) text)
placed_refusal past (Updates (DropId k)) = option_and_then refusal_of_store (fault_of_removal (all_changes past) k)
placed_refusal past (Updates (ApplyBlock block)) = option_and_then (refusal_of_batch past) (read_items (items_of block))
placed_refusal past (Looks (ForPinAt s version)) =
    refuse_if (is_none (retained_version past version)) (R.Retained (length past)) None
placed_refusal past (Looks (ForLog n)) = refuse_if (nat_lt (length past) n) (R.Ahead (length past)) None
placed_refusal past shape = None

-- the first refusal that applies: those by the history come after all others
abbrev pub first_refusal : DaemonConfig → List Update → State → Shape → Option Refusal
first_refusal g past state shape = option_or (own_refusal g state shape) (placed_refusal past shape)

-- Changes.

-- a session pinned to the version of these updates, where that is retained
abbrev pub pinned_to : State → ℕ → Option (List Update) → State
pinned_to state s None = state
pinned_to state s (Some version) = with_session state s (pin_at version)

-- a question that names compliance values is kept as the session's standing query
abbrev pub state_keeping : State → ℕ → Option (List (List ℕ)) → State
state_keeping state s None = state
state_keeping state s (Some values) = with_session state s (watch_with values)

-- what an accepted request after this history makes of the state
abbrev pub state_after : List Update → State → Shape → State
state_after past state (Calls s call) = record state { sessions = after_call state.sessions s call }
state_after past state (Looks ForOpen) = record state {
  started = state.started + 1;
  sessions = with_started state.started state.sessions past;
}
state_after past state (Looks (ForPin s)) = with_session state s (pin_at past)
state_after past state (Looks (ForPinAt s version)) = pinned_to state s (retained_version past version)
state_after past state (Looks (ForNews s)) = with_session state s (move_standing past)
state_after past state (Asks ToKeep s names) = state_keeping state s (values_of names)
state_after past state (Controls (ShowSecret bytes)) = record state { is_admin = true }
state_after past state shape = state

-- Answers.

-- The reply gives the policy's level in the least fixed point, with rows that prove it. Which rows is left open.
pub record IsAnswer (session : Session) (values : List (List ℕ)) (reply : Reply) : Type 0 where
  pub level : ℕ
  pub rows : List NamedRow
  pub exact : reply ≡ Value level (slice_index_or values level []) (length session.pinned) rows
  pub proved : IsProof (equations_of session values) rows level
  pub least : IsPolicyLevel (equations_of session values) level

-- The reply gives the policy's level in the least fixed point of a standing query, with its name and the version. No
-- rows prove it.
pub record IsNews (query : StandingQuery) (reply : Reply) : Type 0 where
  pub level : ℕ
  pub exact : reply ≡ News level (slice_index_or query.values level []) (length query.pinned)
  pub least : IsPolicyLevel (equations_of (asker query) query.values) level

-- The reply gives the policy's level in the least fixed point, with the ids of the critical assertions in their order.
pub record IsCriticalAnswer (session : Session) (values : List (List ℕ)) (reply : Reply) : Type 0 where
  pub level : ℕ
  pub ids : List Id
  pub exact : reply ≡ Critical level ids
  pub least : IsPolicyLevel (equations_of session values) level
  pub critical : AreCritical (asked_of session values) (session_parts session) (session_parts session) ids

-- the answer to a question on this session where these are the compliance values
abbrev pub AnswersQuestion : Question → Session → List (List ℕ) → Reply → Type 0
AnswersQuestion WithProof session values reply = IsAnswer session values reply
AnswersQuestion WithCritical session values reply = IsCriticalAnswer session values reply
AnswersQuestion ToKeep session values reply = IsNews (query_with values session) reply

-- the history ends with this update, which may follow what is before it
pub record IsCommitted (past : List Update) (update : Update) : Type 0 where
  pub before : List Update
  pub ends : past ≡ before ++ update ∷ []
  pub accepted : update_may_follow (all_changes before) update ≡ true

-- The history ends with this caller's update that makes the changes of these items. The reply names the id that its
-- first addition has, or would have, the number of its additions, and its place.
pub record IsBatchCommitted (caller : ℕ) (past : List Update) (items : List Item) (reply : Reply) : Type 0 where
  pub first : ℕ
  pub committed : IsCommitted past (batch_by caller first items)
  pub first_is : first ≡ additions (all_changes committed.before) + 1
  pub exact : reply ≡ Batched first (additions (numbered_from first items)) (length past)

-- the reply to an accepted call: a new private assertion is named by its id
abbrev pub reply_of_call : Call → Session → Reply
reply_of_call (Assert text) session = PrivateAdded (session.made + 1)
reply_of_call call session = Done

-- What an accepted request of this caller gives after this history. An accepted update is the last one of the history
-- already. A version that is asked for is retained, and LOG's n is no more than the number of updates.
abbrev pub Answers : ℕ → List Update → State → Shape → Reply → Type 0
Answers caller past old (Calls s call) reply = IsSomeAnd (session_of old s) (λ x. reply ≡ reply_of_call call x)
Answers caller past old (Updates (AddText text)) reply =
    (id : ℕ) × IsCommitted past (addition_by caller text id) × (reply ≡ Added id (length past))
Answers caller past old (Updates (DropId k)) reply =
    IsCommitted past (removal_by caller k) × (reply ≡ Number (length past))
Answers caller past old (Updates (ApplyBlock block)) reply =
    IsSomeAnd (read_items (items_of block)) (λ items. IsBatchCommitted caller past items reply)
Answers caller past old (Looks ForOpen) reply = reply ≡ Started (old.started + 1) (length past)
Answers caller past old (Looks (ForPin s)) reply = reply ≡ Number (length past)
Answers caller past old (Looks (ForPinAt s version)) reply =
    IsSome (retained_version past version) × (reply ≡ PinnedAt version (length past))
Answers caller past old (Looks (ForNews s)) reply = IsSomeAnd (session_of old s)
    (λ x. IsSomeAnd x.standing (λ query. IsNews (query_at past query) reply))
Answers caller past old (Looks (ForLog n)) reply = (n ≤ length past) × (reply ≡ Log n past)
Answers caller past old (Asks question s names) reply = IsSomeAnd (session_of old s)
    (λ x. IsSomeAnd (values_of names) (λ values. AnswersQuestion question x values reply))
Answers caller past old (Controls control) reply = reply ≡ Done
Answers caller past old (AtFault fault) reply = ⊥

-- The request is accepted: the state refuses nothing, and the reply and the next state are due. An update that the
-- history holds already was judged by what is before it.
pub record Does (g : DaemonConfig) (caller : ℕ) (past : List Update) (old : State) (shape : Shape) (reply : Reply)
    (new : State) : Type 0 where
  pub accepted : own_refusal g old shape ≡ None
  pub answered : Answers caller past old shape reply
  pub next : new ≡ state_after past old shape

-- the requests to which `NoMemory` may be the reply; then nothing has changed
abbrev pub may_lack_memory : Shape → Bool
may_lack_memory (Calls s call) = call_may_lack_memory call
may_lack_memory (Updates update) = true
may_lack_memory (Looks look) = true
may_lack_memory (Asks question s names) = true
may_lack_memory shape = false

-- A daemon of one thread may give this reply to the caller's request of this shape after this history, and be in the
-- state `new` then.
abbrev pub Permits : DaemonConfig → ℕ → List Update → State → Shape → Reply → State → Type 0
Permits g caller past old shape (No refusal) new = (first_refusal g past old shape ≡ Some refusal) × (new ≡ old)
Permits g caller past old shape NoMemory new = (may_lack_memory shape ≡ true) × (new ≡ old)
Permits g caller past old shape reply new = Does g caller past old shape reply new
