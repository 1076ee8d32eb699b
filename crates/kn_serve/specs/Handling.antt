-- One request of a connection answered (keynoted's own).
use Rattle.std.specs.Prelude.{ℕ, ◌≡◌, ◌<◌, ◌^◌, ◌⊎◌, Bool, true, false, List, Option, Some, None, option_to_list}
use Rattle.kn_critical.specs.declared.fault.CriticalFault.{CriticalFault}
use Rattle.kn_critical.specs.declared.fault.CriticalFault.TheVariants as C
use Rattle.kn_outside.specs.Seen.{LinkSeen}
use Rattle.kn_outside.specs.Printing.{Prints}
use Rattle.kn_history.specs.declared.update.Update.{Update}
use Rattle.kn_wire.specs.declared.fault.WireFault.TheVariants as F
use Rattle.kn_reply.specs.declared.refusal.Refusal.{Refusal}
use Rattle.kn_reply.specs.declared.refusal.Refusal.TheVariants as R
use Rattle.kn_reply.specs.declared.refusal.LimitWord.TheVariants as W
use Rattle.kn_wire.specs.Requests.{Request, Bye, Faulty}
use Rattle.kn_reply.specs.Replies.{Reply, No, NoMemory, reply_text}
use Rattle.kn_wire.specs.Feeding.{Held, next_of}
use Rattle.kn_daemon.specs.Shapes.{Question, Shape, Asks, shape_of}
use Rattle.kn_daemon.specs.Daemon.{DaemonConfig, State, Permits, own_refusal}
use Rattle.kn_daemon.specs.Linearized.{update_by, is_placed}
use Rattle.kn_daemon.specs.Served.{is_bye, is_block}
use Rattle.kn_daemon.specs.Underway.{IsReplied, IsSmall}
use Rattle.kn_registry.specs.declared.answer.PinFault.{PinFault}
use Rattle.kn_registry.specs.declared.answer.PinFault.TheVariants as P
use Rattle.kn_registry.specs.Passes.{PassSeen, Moves}
use Rattle.kn_serve.specs.declared.connection.Connection.{Connection}
use Rattle.kn_serve.specs.declared.step.Step.{Step}
use Rattle.kn_serve.specs.declared.step.Step.TheVariants.{NoRequest, Answered, SaidBye, BlockRefused, WriteFailed}

-- what a connection has come to
abbrev pub state_of : Connection → State
state_of c = record { started = c.sessions.started; sessions = c.sessions.sessions; is_admin = c.is_admin }

-- so few sessions were started, and so few private assertions added to each, that their numbers go on
abbrev pub HasRoom : State → Type 0
HasRoom state = (n : ℕ) × (n < 2 ^ 31) × IsSmall n state

-- A connection at one moment: what is seen of its pass, what it has come to, and what is seen of its link.
pub record Moment : Type 0 where
  pub pass : PassSeen
  pub state : State
  pub link : LinkSeen

abbrev pub in_state : State → PassSeen → LinkSeen → Moment
in_state state pass link = record { pass = pass; state = state; link = link }

abbrev pub moment : PassSeen → Connection → LinkSeen → Moment
moment pass connection link = in_state (state_of connection) pass link

-- A request of this shape was answered between two moments: what the pass saw meanwhile, and a reply that is permitted
-- then, which was printed whole or in part. The pass didn't move where the state alone refuses.
pub record Handles (g : DaemonConfig) (shape : Shape) (whole : Bool) (m m' : Moment) : Type 0 where
  pub reply : Reply
  pub more : List Update
  pub entries : List ℕ
  pub moves : Moves m.pass m'.pass more (option_to_list (update_by m.pass.number shape reply)) entries
  pub replied : IsReplied g m.pass.number m.pass.seen more entries m.state shape reply m'.state
  pub still : (refusal : Refusal) → own_refusal g m.state shape ≡ Some refusal → m'.pass ≡ m.pass
  pub prints : Prints whole (reply_text reply) m.link m'.link

-- A request of this shape was answered by the state alone: a reply that is permitted wherever it stands, which was
-- printed whole or in part.
pub record Tells (g : DaemonConfig) (shape : Shape) (whole : Bool) (old new : State) (l l' : LinkSeen) : Type 0 where
  pub reply : Reply
  pub permitted : (caller : ℕ) (past : List Update) → Permits g caller past old shape reply new
  pub no_update : (caller : ℕ) → update_by caller shape reply ≡ None
  pub unplaced : is_placed shape reply ≡ false
  pub prints : Prints whole (reply_text reply) l l'

-- the next request was spent and answered
pub record TakesNext (g : DaemonConfig) (m m' : Moment) (h h' : Held) (request : Request) (whole : Bool) : Type 0 where
  pub next : next_of h ≡ Some (request, h')
  pub handled : Handles g (shape_of request) whole m m'

-- the next request, if there is one, was spent and answered
abbrev pub MakesStep : DaemonConfig → Moment → Moment → Held → Held → Step → Type 0
MakesStep g m m' h h' NoRequest = (next_of h ≡ None) × (h' ≡ h) × (m' ≡ m)
MakesStep g m m' h h' Answered = (request : Request) × TakesNext g m m' h h' request true × (is_bye request ≡ false)
    × (is_block request ≡ false)
MakesStep g m m' h h' SaidBye = TakesNext g m m' h h' Bye true
MakesStep g m m' h h' (BlockRefused n) = TakesNext g m m' h h' (Faulty (F.Block n)) true
MakesStep g m m' h h' WriteFailed = (request : Request) × TakesNext g m m' h h' request false

-- each question of the session with these names is refused so, or without a refusal memory ran out
abbrev pub RefusesQuestions : State → ℕ → List ℕ → Option Refusal → Type 0
RefusesQuestions state s names refusal =
    (refusal ≡ None)
    ⊎ ((g : DaemonConfig) (question : Question) → own_refusal g state (Asks question s names) ≡ refusal)

-- the refusal of a query that is too large for a search of its critical assertions; none when out of memory
abbrev pub refusal_of_critical : CriticalFault → Option Refusal
refusal_of_critical (C.Large nodes) = Some (R.Limit W.Nodes nodes)
refusal_of_critical C.NoMemory = None

-- the refusal of a version that isn't retained; none when out of memory
abbrev pub refusal_of_version : PinFault → Option Refusal
refusal_of_version (P.Missing newest) = Some (R.Retained newest)
refusal_of_version P.NoMemory = None

-- the reply that tells a refusal; where there is none, memory ran out
abbrev pub refused_reply : Option Refusal → Reply
refused_reply None = NoMemory
refused_reply (Some refusal) = No refusal
