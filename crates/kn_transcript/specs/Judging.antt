-- One reply judged (keynoted's own).
use Rattle.std.specs.Prelude.{ℕ, ◌≡◌, ◌≢◌, ◌<◌, ◌^◌, List, ◌++◌, Option, Some, None}
use Rattle.kn_history.specs.declared.update.Update.{Update}
use Rattle.kn_reply.specs.Replies.{Reply, NoMemory, reply_text}
use Rattle.kn_reply_reader.specs.Texts.{HasText}
use Rattle.kn_daemon.specs.Shapes.{Shape}
use Rattle.kn_daemon.specs.Daemon.{State}
use Rattle.kn_daemon.specs.Underway.{IsSmall}
use Rattle.kn_transcript.specs.declared.connection.Connection.{Connection}
use Rattle.kn_transcript.specs.Followed.{IsPermitted, history_behind}

-- what a connection has come to
abbrev pub state_of : Connection → State
state_of c = record { started = c.sessions.started; sessions = c.sessions.sessions; is_admin = c.is_admin }

-- so few sessions were started, and so few private assertions added to each, that their numbers go on
abbrev pub HasRoom : State → Type 0
HasRoom state = (n : ℕ) × (n < 2 ^ 31) × IsSmall n state

-- what is left of bytes behind this text; nothing where they don't begin with it
abbrev pub IsBehind : List ℕ → List ℕ → Option (List ℕ) → Type 0
IsBehind left text None = (rest : List ℕ) → left ≢ text ++ rest
IsBehind left text (Some rest) = left ≡ text ++ rest

-- the bytes begin with the text of this reply to a request of this shape, which is permitted, and these are left
-- behind it
pub record IsTaken (past : List Update) (old : State) (shape : Shape) (left : List ℕ) (reply : Reply) (rest : List ℕ)
    (new : State) : Type 0 where
  pub text : HasText reply
  pub cut : left ≡ reply_text reply ++ rest
  pub permitted : IsPermitted past old shape reply new

-- a permitted reply was taken, behind which this is the history
pub record Takes (past : List Update) (old : State) (shape : Shape) (left rest : List ℕ) (history : List Update)
    (new : State) : Type 0 where
  pub reply : Reply
  pub taken : IsTaken past old shape left reply rest new
  pub behind : history ≡ history_behind past shape reply

-- A permitted reply was taken, or the bytes begin with none that is permitted. `NoMemory` is judged apart.
abbrev pub Judges : List Update → State → Shape → List ℕ → List Update → State → Option (List ℕ) → Type 0
Judges past old shape left history new None =
    (reply : Reply) (rest : List ℕ) (other : State) → reply ≢ NoMemory → ¬ IsTaken past old shape left reply rest other
Judges past old shape left history new (Some rest) = Takes past old shape left rest history new

-- the same where `NoMemory` is judged too
abbrev pub JudgesReply : List Update → State → Shape → List ℕ → List Update → State → Option (List ℕ) → Type 0
JudgesReply past old shape left history new None =
    (reply : Reply) (rest : List ℕ) (other : State) → ¬ IsTaken past old shape left reply rest other
JudgesReply past old shape left history new (Some rest) = Takes past old shape left rest history new
