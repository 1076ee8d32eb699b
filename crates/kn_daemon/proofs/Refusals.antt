-- A refusal depends on the place exactly where it is the history's.
use Rattle.std.proofs.Common.{◌≡◌, ℕ, ◌+◌, Bool, true, false, cond, not, List, [], ◌∷◌, length, Option, Some, None}
use Rattle.std.proofs.Common.{Result, Ok, Err, refl, ap, ◌∙◌, sym, option_map, option_and_then, is_none}
use Rattle.std.specs.Prelude.{nat_lt, nat_le, ◌==◌, ⊤}
use Rattle.std.specs.Option.{option_or}
use Rattle.kn_trees.specs.declared.assertion.Assertion.{Assertion}
use Rattle.kn_assert.specs.Reading.{reading_of}
use Rattle.kn_fields.specs.Numbers.{fault_number, fault_place}
use Rattle.kn_fields.specs.declared.fault.ReadFault.{ReadFault}
use Rattle.kn_base.specs.declared.limits.TheConstants.{SESSIONS}
use Rattle.kn_history.specs.declared.update.Update.{Update}
use Rattle.kn_history.specs.declared.item.Item.{Item}
use Rattle.kn_history.specs.declared.fault.StoreFault.{StoreFault}
use Rattle.kn_history.specs.declared.fault.StoreFault.TheVariants as U
use Rattle.kn_history.specs.History.{all_changes, refusal_of_text, refusal_of_id}
use Rattle.kn_history.specs.Batches.{refusal_of_items}
use Rattle.kn_history.specs.Retained.{retained_version}
use Rattle.kn_session.specs.Sessions.{Session, fault_if, standing_fault}
use Rattle.kn_session.specs.declared.fault.SessionFault.TheVariants as F
use Rattle.kn_wire.specs.Items.{BatchItem, items_of}
use Rattle.kn_wire.specs.Items as B
use Rattle.kn_reply.specs.declared.refusal.Refusal.{Refusal}
use Rattle.kn_reply.specs.declared.refusal.Refusal.TheVariants as R
use Rattle.kn_reply.specs.declared.refusal.ItemRefusal.{ItemRefusal}
use Rattle.kn_reply.specs.declared.refusal.ItemRefusal.TheVariants as I
use Rattle.kn_reply.specs.declared.refusal.LimitWord.{LimitWord}
use Rattle.kn_reply.specs.declared.refusal.LimitWord.TheVariants as W
use Rattle.kn_reply.specs.Replies.{No}
use Rattle.kn_daemon.specs.Shapes.{Updating, AddText, DropId, ApplyBlock, Look, ForOpen, ForPin, ForPinAt}
use Rattle.kn_daemon.specs.Shapes.{ForNews, ForLog, Shape, Calls, Updates, Looks, Asks, Controls, AtFault}
use Rattle.kn_daemon.specs.Daemon.{DaemonConfig, State, session_of, refuse_if, refusal_by, refusal_at_reading}
use Rattle.kn_daemon.specs.Daemon.{refusal_at_verdict, refusal_at_store, in_session, item_refusal, refusal_from}
use Rattle.kn_daemon.specs.Daemon.{refusal_of_block, refusal_of_store, refusal_of_item_fault, read_items}
use Rattle.kn_daemon.specs.Daemon.{refusal_of_batch, own_refusal, placed_refusal}
use Rattle.kn_daemon.specs.Linearized.{is_by_history, is_placed}

-- the history refuses this of an update
abbrev by_update : Updating → Refusal → Bool
by_update update refusal = is_by_history (Updates update) refusal

-- of an update, it refuses the item of this number for this
abbrev refuses_item : Updating → ℕ → ItemRefusal → Bool
refuses_item update number inner = by_update update (R.Item number inner)

-- it refuses this of a look
abbrev by_look : Look → Refusal → Bool
by_look look refusal = is_by_history (Looks look) refusal

-- of a refusal, if there is one, this is so
abbrev Each : {X : Type 0} → (X → Bool) → Bool → Option X → Type 0
Each p t None = ⊤
Each p t (Some x) = p x ≡ t

the-one : {X : Type 0} (p : X → Bool) (t : Bool) (o : Option X) (x : X) → Each p t o → o ≡ Some x → p x ≡ t
the-one p t None x h e = absurd (cc (e))
the-one p t (Some y) x h e = let same : y ≡ x = cc in ap p (sym same) ∙ h

if-each : (p : Refusal → Bool) (t b : Bool) (refusal : Refusal) (next : Option Refusal) → p refusal ≡ t → Each p t next
    → Each p t (refuse_if b refusal next)
if-each p t true refusal next here later = here
if-each p t false refusal next here later = later

-- Refusals by the state alone.

-- what a text and the authenticator refuse, however it is told
reading-each : {X : Type 0} (p : X → Bool) (t : Bool) (read : ℕ → ℕ → X) (auth : ℕ → X)
    → ((number place : ℕ) → p (read number place) ≡ t) → ((number : ℕ) → p (auth number) ≡ t)
    → (verdict : Assertion → ℕ) (reading : Result Assertion ReadFault)
    → Each p t (refusal_at_reading read reading (λ a. refusal_at_verdict auth (verdict a)))
reading-each p t read auth at_read at_auth verdict (Ok assertion) = by (not (verdict assertion == 0))
  where
    by : (b : Bool) → Each p t (cond b (Some (auth (verdict assertion))) None)
    by true = at_auth (verdict assertion)
    by false = tt
reading-each p t read auth at_read at_auth verdict (Err fault) = by (fault_number fault)
  where
    by : (number : Option ℕ) → Each p t (option_map (λ n. read n (fault_place fault)) number)
    by None = tt
    by (Some n) = at_read n (fault_place fault)

module _ (g : DaemonConfig) (update : Updating) where
  item-each : (number : ℕ) (item : BatchItem) → Each (refuses_item update number) false (item_refusal g item)
  item-each number (B.AddText text) =
      reading-each (refuses_item update number) false I.Read I.Auth (λ fault place. refl) (λ fault. refl)
      (g.verdict text) (reading_of text)
  item-each number (B.DropId k) = tt

  items-each : (number : ℕ) (items : List BatchItem) → Each (by_update update) false (refusal_from g number items)
  items-each number [] = tt
  items-each number (item ∷ items) = by (item_refusal g item) (item-each number item) (items-each (number + 1) items)
    where
      by : (o : Option ItemRefusal) → Each (refuses_item update number) false o
          → Each (by_update update) false (refusal_from g (number + 1) items)
          → Each (by_update update) false (option_or (option_map (R.Item number) o) (refusal_from g (number + 1) items))
      by None h later = later
      by (Some inner) h later = h

  block-each : (items : Result (List BatchItem) ℕ) → Each (by_update update) false (refusal_of_block g items)
  block-each (Ok items) = items-each 1 items
  block-each (Err number) = refl

update-each : (g : DaemonConfig) (state : State) (update : Updating)
    → Each (by_update update) false (own_refusal g state (Updates update))
update-each g state (AddText text) =
    if-each (by_update (AddText text)) false (not state.is_admin) R.Admin
    (refusal_at_reading R.Read (reading_of text) (λ a. refusal_at_verdict R.Auth (g.verdict text a))) refl
    (reading-each (by_update (AddText text)) false R.Read R.Auth (λ number place. refl) (λ number. refl)
    (g.verdict text) (reading_of text))
update-each g state (DropId k) = if-each (by_update (DropId k)) false (not state.is_admin) R.Admin None refl tt
update-each g state (ApplyBlock block) =
    if-each (by_update (ApplyBlock block)) false (not state.is_admin) R.Admin (refusal_of_block g (items_of block)) refl
    (block-each g (ApplyBlock block) (items_of block))

session-each : (look : Look) (session : Option Session) (refusal : Session → Option Refusal)
    → ((x : Session) → Each (by_look look) false (refusal x)) → Each (by_look look) false (in_session session refusal)
session-each look None refusal own = refl
session-each look (Some session) refusal own = own session

-- there is no standing query, or nothing is refused
standing-each : (look : Look) (x : Session) → Each (by_look look) false (refusal_by (standing_fault x))
standing-each look x = by (is_none x.standing)
  where
    by : (b : Bool) → Each (by_look look) false (refusal_by (fault_if b F.Absent None))
    by true = refl
    by false = tt

look-each : (g : DaemonConfig) (state : State) (look : Look)
    → Each (by_look look) false (own_refusal g state (Looks look))
look-each g state ForOpen = by (nat_le SESSIONS (length state.sessions))
  where
    by : (b : Bool) → Each (by_look ForOpen) false
        (refusal_by (fault_if b (F.Sessions (length state.sessions)) None))
    by true = refl
    by false = tt
look-each g state (ForPin s) = session-each (ForPin s) (session_of state s) (λ x. None) (λ x. tt)
look-each g state (ForPinAt s version) =
    session-each (ForPinAt s version) (session_of state s) (λ x. None) (λ x. tt)
look-each g state (ForNews s) =
    session-each (ForNews s) (session_of state s) (λ x. refusal_by (standing_fault x)) (standing-each (ForNews s))
look-each g state (ForLog n) = if-each (by_look (ForLog n)) false (not state.is_admin) R.Admin None refl tt

pub own-unplaced : (g : DaemonConfig) (state : State) (shape : Shape) (refusal : Refusal)
    → own_refusal g state shape ≡ Some refusal → is_placed shape (No refusal) ≡ false
own-unplaced g state (Calls s call) refusal e = refl
own-unplaced g state (Updates update) refusal e =
    the-one (by_update update) false (own_refusal g state (Updates update)) refusal (update-each g state update) e
own-unplaced g state (Looks look) refusal e =
    the-one (by_look look) false (own_refusal g state (Looks look)) refusal (look-each g state look) e
own-unplaced g state (Asks question s names) refusal e = refl
own-unplaced g state (Controls control) refusal e = refl
own-unplaced g state (AtFault fault) refusal e = refl

-- Refusals by the history.

-- what the store refuses, however it is told
store-each : {X : Type 0} (p : X → Bool) (unknown : X) (limit : LimitWord → ℕ → X) → p unknown ≡ true
    → ((word : LimitWord) (count : ℕ) → p (limit word count) ≡ true)
    → (fault : StoreFault) → Each p true (refusal_at_store unknown limit fault)
store-each p unknown limit at_unknown at_limit (U.Unknown id) = at_unknown
store-each p unknown limit at_unknown at_limit (U.LiveFull count) = at_limit W.Live count
store-each p unknown limit at_unknown at_limit (U.BytesFull bytes) = at_limit W.LiveBytes bytes
store-each p unknown limit at_unknown at_limit (U.HistoryFull updates) = at_limit W.Updates updates
store-each p unknown limit at_unknown at_limit (U.LogFull bytes) = at_limit W.LogBytes bytes
store-each p unknown limit at_unknown at_limit U.NoMemory = tt

module _ (update : Updating) where
  change-each : (fault : Option StoreFault) → Each (by_update update) true (option_and_then refusal_of_store fault)
  change-each None = tt
  change-each (Some fault) = store-each (by_update update) R.Unknown R.Limit refl (λ word count. refl) fault

  fault-each : (number : ℕ) (fault : StoreFault) → Each (by_update update) true (refusal_of_item_fault number fault)
  fault-each number fault =
      by (refusal_at_store I.Unknown I.Limit fault)
      (store-each (refuses_item update number) I.Unknown I.Limit refl (λ word count. refl) fault)
    where
      by : (o : Option ItemRefusal) → Each (refuses_item update number) true o
          → Each (by_update update) true (option_map (R.Item number) o)
      by None h = tt
      by (Some inner) h = h

  batch-each : (past : List Update) (items : Option (List Item))
      → Each (by_update update) true (option_and_then (refusal_of_batch past) items)
  batch-each past None = tt
  batch-each past (Some items) = by (refusal_of_items (all_changes past) items)
    where
      by : (o : Option (ℕ × StoreFault))
          → Each (by_update update) true (option_and_then (λ found. refusal_of_item_fault found.0 found.1) o)
      by None = tt
      by (Some found) = fault-each found.0 found.1

placed-update-each : (past : List Update) (update : Updating)
    → Each (by_update update) true (placed_refusal past (Updates update))
placed-update-each past (AddText text) = change-each (AddText text) (refusal_of_text (all_changes past) text)
placed-update-each past (DropId k) = change-each (DropId k) (refusal_of_id (all_changes past) k)
placed-update-each past (ApplyBlock block) = batch-each (ApplyBlock block) past (read_items (items_of block))

placed-look-each : (past : List Update) (look : Look) → Each (by_look look) true (placed_refusal past (Looks look))
placed-look-each past ForOpen = tt
placed-look-each past (ForPin s) = tt
placed-look-each past (ForNews s) = tt
placed-look-each past (ForPinAt s version) =
    if-each (by_look (ForPinAt s version)) true (is_none (retained_version past version)) (R.Retained (length past))
    None refl tt
placed-look-each past (ForLog n) =
    if-each (by_look (ForLog n)) true (nat_lt (length past) n) (R.Ahead (length past)) None refl tt

pub history-placed : (past : List Update) (shape : Shape) (refusal : Refusal) → placed_refusal past shape ≡ Some refusal
    → is_placed shape (No refusal) ≡ true
history-placed past (Calls s call) refusal e = absurd (cc (e))
history-placed past (Updates update) refusal e =
    the-one (by_update update) true (placed_refusal past (Updates update)) refusal (placed-update-each past update) e
history-placed past (Looks look) refusal e =
    the-one (by_look look) true (placed_refusal past (Looks look)) refusal (placed-look-each past look) e
history-placed past (Asks question s names) refusal e = absurd (cc (e))
history-placed past (Controls control) refusal e = absurd (cc (e))
history-placed past (AtFault fault) refusal e = absurd (cc (e))
