-- Laws of a connection that is being served, of requests, and of histories.
use Rattle.std.specs.Prelude.{ℕ, ◌≡◌, ◌≢◌, ◌+◌, ◌<◌, ◌≤◌, Bool, true, false, List, [], ◌∷◌, ◌++◌, length, take, drop}
use Rattle.std.specs.Prelude.{All, Option, Some, None, option_map, codes}
use Rattle.kn_base.specs.declared.limits.TheConstants.{REQUESTS}
use Rattle.kn_trees.specs.declared.assertion.Assertion.{Assertion}
use Rattle.kn_assert.specs.Reading.{reading_of, assertion_of, fault_of}
use Rattle.kn_fields.specs.Numbers.{fault_number, fault_place}
use Rattle.kn_fields.specs.declared.fault.ReadFault.{ReadFault}
use Rattle.kn_wire.specs.declared.fault.WireFault.{WireFault}
use Rattle.kn_wire.specs.declared.fault.WireFault.TheVariants as F
use Rattle.kn_reply.specs.declared.refusal.Refusal.{Refusal}
use Rattle.kn_reply.specs.declared.refusal.Refusal.TheVariants as R
use Rattle.kn_reply.specs.declared.refusal.ItemRefusal.TheVariants as I
use Rattle.kn_history.specs.declared.update.Update.{Update}
use Rattle.kn_wire.specs.Requests.{Request, Close, Retract, Unset, Unauth, Clear, Unwatch, Admin, Bye, Faulty}
use Rattle.kn_wire.specs.Items.{AddText}
use Rattle.kn_reply.specs.Replies.{Reply, Log, No, NoMemory, reply_text}
use Rattle.kn_history.specs.History.{is_valid_history, own_updates}
use Rattle.kn_daemon.specs.declared.ended.Ended.{Ended}
use Rattle.kn_daemon.specs.declared.ended.Ended.TheVariants as E
use Rattle.kn_daemon.specs.Shapes.{ForLog, Shape, Looks, shape_of}
use Rattle.kn_daemon.specs.Daemon.{DaemonConfig, State, first_state, IsCommitted, Permits}
use Rattle.kn_daemon.specs.Daemon.{refusal_at_reading, refusal_at_verdict, item_refusal, own_refusal, placed_refusal}
use Rattle.kn_daemon.specs.Linearized.{Exchange, Along, requests_in, update_by, is_placed}
use Rattle.kn_session.specs.declared.fault.CallFault.{CallFault}
use Rattle.kn_session.specs.declared.fault.CallFault.TheVariants as T
use Rattle.kn_session.specs.Sessions.{Session}
use Rattle.kn_session.specs.Calls.{text_fault}
use Rattle.kn_daemon.specs.Played.{after_request, played, IsLastQuery}
use Rattle.kn_daemon.specs.Alone.{IsServedAlone}
use Rattle.kn_wire.specs.Feeding.{Held, Bytes, held_bytes, with_piece, next_of}
use Rattle.kn_daemon.specs.Served.{IsServed, is_bye, is_block}
use Rattle.kn_daemon.specs.Underway.{IsUnderway, IsReplied, IsSmall}

-- at first nothing is taken and nothing written
abbrev pub Begins : Type 0
Begins = (g : DaemonConfig) (history : List Update) (caller : ℕ)
    → IsUnderway g [] [] history (length history) caller [] first_state (Bytes []) 0

-- one more piece of bytes is taken
abbrev pub TakesPiece : Type 0
TakesPiece = (g : DaemonConfig) (taken written : List ℕ) (history : List Update) (start caller : ℕ) (stops : List ℕ)
    (state : State) (held : Held) (answered : ℕ) (piece : List ℕ)
    → IsUnderway g taken written history start caller stops state held answered
    → IsUnderway g (taken ++ piece) written history start caller stops state (with_piece held piece) answered

-- one more request that doesn't end the connection is answered
abbrev pub AnswersOne : Type 0
AnswersOne = (g : DaemonConfig) (taken written : List ℕ) (history more : List Update) (start caller : ℕ)
    (stops entries : List ℕ) (old new : State) (held after : Held) (answered : ℕ) (request : Request) (reply : Reply)
    → IsUnderway g taken written history start caller stops old held answered
    → next_of held ≡ Some (request, after)
    → IsReplied g caller history more entries old (shape_of request) reply new
    → is_bye request ≡ false → is_block request ≡ false
    → IsUnderway g taken (written ++ reply_text reply)
    (history ++ more) start caller (stops ++ entries) new after (answered + 1)

-- BYE is answered
abbrev pub EndsByBye : Type 0
EndsByBye = (g : DaemonConfig) (taken written : List ℕ) (history more : List Update) (start caller : ℕ)
    (stops entries : List ℕ) (old new : State) (held after : Held) (answered : ℕ) (reply : Reply) (is_over : Bool)
    → IsUnderway g taken written history start caller stops old held answered → answered < REQUESTS
    → next_of held ≡ Some (Bye, after)
    → IsReplied g caller history more entries old (shape_of Bye) reply new
    → is_valid_history (history ++ more) ≡ true
    → IsServed g taken (written ++ reply_text reply) E.Done is_over (history ++ more) start
    (length (history ++ more)) caller (stops ++ entries)

-- a block is refused
abbrev pub EndsByBlock : Type 0
EndsByBlock = (g : DaemonConfig) (taken written : List ℕ) (history more : List Update) (start caller : ℕ)
    (stops entries : List ℕ) (old new : State) (held after : Held) (answered n : ℕ) (reply : Reply) (is_over : Bool)
    → IsUnderway g taken written history start caller stops old held answered → answered < REQUESTS
    → next_of held ≡ Some (Faulty (F.Block n), after)
    → IsReplied g caller history more entries old (shape_of (Faulty (F.Block n))) reply new
    → is_valid_history (history ++ more) ≡ true
    → IsServed g taken (written ++ reply_text reply)
    (E.Block n) is_over (history ++ more) start (length (history ++ more)) caller (stops ++ entries)

-- a reply is not written whole
abbrev pub EndsByWrite : Type 0
EndsByWrite = (g : DaemonConfig) (taken written : List ℕ) (history more : List Update) (start caller : ℕ)
    (stops entries : List ℕ) (old new : State) (held after : Held) (answered at : ℕ) (request : Request) (reply : Reply)
    (is_over : Bool)
    → IsUnderway g taken written history start caller stops old held answered → answered < REQUESTS
    → next_of held ≡ Some (request, after)
    → IsReplied g caller history more entries old (shape_of request) reply new
    → at < length (reply_text reply)
    → is_valid_history (history ++ more) ≡ true
    → IsServed g taken (written ++ take at (reply_text reply)) E.WriteFault is_over (history ++ more) start
    (length (history ++ more)) caller (stops ++ entries)

-- no whole request is held: how the connection may end then
pub record HasNoRequest (g : DaemonConfig) (taken written : List ℕ) (history : List Update) (start caller : ℕ)
    (stops : List ℕ)
    (held : Held) : Type 0 where
  pub by_read : (is_over : Bool)
      → IsServed g taken written E.ReadFault is_over history start (length history) caller stops
  pub by_end : held_bytes held ≡ [] → IsServed g taken written E.Done true history start (length history) caller stops
  pub by_cut : 0 < length (held_bytes held)
      → IsServed g taken written (E.Cut (length (held_bytes held))) true history start (length history) caller stops

-- no whole request is held
abbrev pub EndsWithoutRequest : Type 0
EndsWithoutRequest =
    (g : DaemonConfig) (taken written : List ℕ) (history : List Update) (start caller : ℕ) (stops : List ℕ)
    (state : State) (held : Held) (answered : ℕ)
    → IsUnderway g taken written history start caller stops state held answered → answered < REQUESTS
    → next_of held ≡ None → is_valid_history history ≡ true
    → HasNoRequest g taken written history start caller stops held

-- as many requests were answered as a connection has
abbrev pub EndsByBudget : Type 0
EndsByBudget = (g : DaemonConfig) (taken written : List ℕ) (history : List Update) (start caller : ℕ) (stops : List ℕ)
    (state : State) (held : Held) (is_over : Bool)
    → IsUnderway g taken written history start caller stops state held REQUESTS → is_valid_history history ≡ true
    → IsServed g taken written E.Budget is_over history start (length history) caller stops

-- memory ran out at first
abbrev pub EndsByMemory : Type 0
EndsByMemory = (g : DaemonConfig) (history : List Update) (caller : ℕ) (is_over : Bool)
    → is_valid_history history ≡ true
    → IsServed g [] [] E.Memory is_over history (length history) (length history) caller []

-- a served connection stays served in a longer valid history
abbrev pub ServedLonger : Type 0
ServedLonger = (g : DaemonConfig) (taken written : List ℕ) (ended : Ended) (is_over : Bool) (history more : List Update)
    (start end caller : ℕ) (stops : List ℕ)
    → is_valid_history (history ++ more) ≡ true → IsServed g taken written ended is_over history start end caller stops
    → IsServed g taken written ended is_over (history ++ more) start end caller stops

-- what the daemon permits changes the state as playing does, unless memory ran out
abbrev pub PermittedIsPlayed : Type 0
PermittedIsPlayed =
    (g : DaemonConfig) (caller : ℕ) (past : List Update) (old : State) (request : Request) (reply : Reply)
    (new : State)
    → Permits g caller past old (shape_of request) reply new → reply ≢ NoMemory → new ≡ after_request g past old request

-- and so does a list of exchanges, each after the whole history
abbrev pub AlongIsPlayed : Type 0
AlongIsPlayed = (g : DaemonConfig) (caller : ℕ) (history : List Update) (old : State) (exchanges : List Exchange)
    (new : State)
    → Along g caller history old exchanges new → All (λ e. e.place ≡ length history) exchanges
    → All (λ e. e.reply ≢ NoMemory) exchanges
    → new ≡ played g history old (requests_in exchanges)

-- a small connection over an empty history: a session is opened, and the turn is had once
abbrev pub OpeningIsServed : Type 0
OpeningIsServed = (g : DaemonConfig) (caller : ℕ)
    → IsServed g (codes "OPEN\nBYE\n") (codes "OK 1 0\nOK\n") E.Done false [] 0 0 caller (0 ∷ [])

-- so many requests start at most as many sessions, and add at most as many private assertions
abbrev pub UnderwayIsSmall : Type 0
UnderwayIsSmall =
    (g : DaemonConfig) (taken written : List ℕ) (history : List Update) (start caller : ℕ) (stops : List ℕ)
    (state : State) (held : Held) (answered : ℕ)
    → IsUnderway g taken written history start caller stops state held answered → IsSmall answered state

-- where all that was seen meanwhile is the caller's own, the replies tell each place
abbrev pub ServedAlone : Type 0
ServedAlone = (g : DaemonConfig) (taken written : List ℕ) (ended : Ended) (is_over : Bool) (history : List Update)
    (start caller : ℕ) (stops : List ℕ)
    → IsServed g taken written ended is_over history start (length history) caller stops
    → own_updates caller (drop start history) ≡ drop start history
    → IsServedAlone g taken written ended is_over (take start history) history caller

-- a text with a fault is refused for it
abbrev pub FaultRefuses : Type 0
FaultRefuses = (text : List ℕ) (fault : ReadFault) (next : Assertion → Option Refusal) → fault_of text ≡ Some fault
    → refusal_at_reading R.Read (reading_of text) next ≡ option_map (λ number. R.Read number (fault_place fault))
    (fault_number fault)

-- and one with a reading by what its assertion is refused for
abbrev pub ReadingGoesOn : Type 0
ReadingGoesOn = (text : List ℕ) (assertion : Assertion) (next : Assertion → Option Refusal)
    → assertion_of text ≡ Some assertion
    → refusal_at_reading R.Read (reading_of text) next ≡ next assertion

-- an item of a batch that adds a text with a fault is refused for it, and one with a reading by what the authenticator
-- says
abbrev pub FaultRefusesItem : Type 0
FaultRefusesItem = (g : DaemonConfig) (text : List ℕ) (fault : ReadFault) → fault_of text ≡ Some fault
    → item_refusal g (AddText text) ≡ option_map (λ number. I.Read number (fault_place fault)) (fault_number fault)

abbrev pub ReadingAdmitsItem : Type 0
ReadingAdmitsItem = (g : DaemonConfig) (text : List ℕ) (assertion : Assertion) → assertion_of text ≡ Some assertion
    → item_refusal g (AddText text) ≡ refusal_at_verdict I.Auth (g.verdict text assertion)

-- a call that asserts a text with a fault has that fault, and one with a reading what its assertion has
abbrev pub FaultRefusesCall : Type 0
FaultRefusesCall = (text : List ℕ) (fault : ReadFault) (next : Assertion → Option CallFault)
    → fault_of text ≡ Some fault
    → text_fault (reading_of text) next ≡ Some (T.Text fault)

abbrev pub CallGoesOn : Type 0
CallGoesOn = (text : List ℕ) (assertion : Assertion) (next : Assertion → Option CallFault)
    → assertion_of text ≡ Some assertion
    → text_fault (reading_of text) next ≡ next assertion

-- requests mean one query at most
abbrev pub LastQueryIsOne : Type 0
LastQueryIsOne = (history : List Update) (requests : List Request) (session other_session : Session)
    (values other_values : List (List ℕ))
    → IsLastQuery history requests session values → IsLastQuery history requests other_session other_values
    → (session ≡ other_session) × (values ≡ other_values)

-- the caller's update that a request and its reply name is the last one of the history, and may follow what is before
-- it
abbrev pub UpdateIsCommitted : Type 0
UpdateIsCommitted = (g : DaemonConfig) (caller : ℕ) (past : List Update) (old : State) (shape : Shape) (reply : Reply)
    (new : State) (update : Update)
    → Permits g caller past old shape reply new → update_by caller shape reply ≡ Some update → IsCommitted past update

-- what refuses a request by the state alone doesn't depend on its place
abbrev pub OwnIsUnplaced : Type 0
OwnIsUnplaced = (g : DaemonConfig) (state : State) (shape : Shape) (refusal : Refusal)
    → own_refusal g state shape ≡ Some refusal → is_placed shape (No refusal) ≡ false

-- and what refuses it by the history does
abbrev pub HistoryIsPlaced : Type 0
HistoryIsPlaced = (past : List Update) (shape : Shape) (refusal : Refusal) → placed_refusal past shape ≡ Some refusal
    → is_placed shape (No refusal) ≡ true

-- A reply to LOG that hands on updates tells what was asked for, of the history at its place, and changes nothing.
abbrev pub LogIsOfPlace : Type 0
LogIsOfPlace = (g : DaemonConfig) (caller : ℕ) (past : List Update) (old : State) (n m : ℕ) (history : List Update)
    (new : State)
    → Permits g caller past old (Looks (ForLog n)) (Log m history) new
    → (m ≡ n) × (history ≡ past) × (n ≤ length past) × (new ≡ old)

-- what is replied to a request without a look at the history is permitted at each place
abbrev pub UnplacedIsFree : Type 0
UnplacedIsFree =
    (g : DaemonConfig) (caller : ℕ) (past other : List Update) (old : State) (shape : Shape) (reply : Reply)
    (new : State) → is_placed shape reply ≡ false → Permits g caller past old shape reply new
    → Permits g caller other old shape reply new

-- `NoMemory` is no reply to this request
abbrev pub NeverLacksMemory : Request → Type 0
NeverLacksMemory request = (g : DaemonConfig) (caller : ℕ) (past : List Update) (old new : State)
    → Permits g caller past old (shape_of request) NoMemory new → ⊥

-- Requests that keep nothing more, and faults, are answered without more memory.
abbrev pub FewerTakesNoMemory : Type 0
FewerTakesNoMemory = (s k : ℕ) (text : List ℕ) (fault : WireFault) → NeverLacksMemory (Close s)
    × NeverLacksMemory (Retract s k) × NeverLacksMemory (Unset s text) × NeverLacksMemory (Unauth s text)
    × NeverLacksMemory (Clear s) × NeverLacksMemory (Unwatch s) × NeverLacksMemory (Admin text)
    × NeverLacksMemory Bye × NeverLacksMemory (Faulty fault)
