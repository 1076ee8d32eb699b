-- Replies that a daemon of one thread may have given, judged from the replies alone (keynoted's own).
use Rattle.std.specs.Prelude.{ℕ, ◌≡◌, ◌≤◌, List, [], ◌∷◌, ◌++◌, Option, Some, None}
use Rattle.kn_trees.specs.declared.assertion.Assertion.{Assertion}
use Rattle.kn_history.specs.declared.update.Update.{Update}
use Rattle.kn_wire.specs.Requests.{Request}
use Rattle.kn_reply.specs.Replies.{Reply}
use Rattle.kn_daemon.specs.Shapes.{Shape, shape_of}
use Rattle.kn_daemon.specs.Daemon.{DaemonConfig, State, Permits}
use Rattle.kn_daemon.specs.Linearized.{update_by}
use Rattle.kn_transcript.specs.declared.fault.TheConstants.{AUTH_FAULTS}

-- a request with its reply
pub record Answered : Type 0 where
  pub request : Request
  pub reply : Reply

abbrev pub with_update : List Update → Option Update → List Update
with_update past None = past
with_update past (Some update) = past ++ update ∷ []

-- the history with the update of the connection that a request of this shape and its reply name, if they name one
abbrev pub history_behind : List Update → Shape → Reply → List Update
history_behind past shape reply = with_update past (update_by 0 shape reply)

-- Whether a secret was right, and what the authenticator said of each text, are shown by the reply alone: it is
-- permitted where the daemon was started with some secret, and with some authenticator that has no more faults than
-- there are. The connection is the only one, so each place is behind the updates so far and its own.
pub record IsPermitted (past : List Update) (old : State) (shape : Shape) (reply : Reply) (new : State) : Type 0 where
  pub grounds : DaemonConfig
  pub faults : (text : List ℕ) (assertion : Assertion) → grounds.verdict text assertion ≤ AUTH_FAULTS
  pub permitted : Permits grounds 0 (history_behind past shape reply) old shape reply new

-- each reply is permitted in the state before it; then these are the history and the state
abbrev pub Follows : List Update → State → List Answered → List Update → State → Type 0
Follows past old [] history new = (history ≡ past) × (new ≡ old)
Follows past old (a ∷ answered) history new = (mid : State) × IsPermitted past old (shape_of a.request) a.reply mid
    × Follows (history_behind past (shape_of a.request) a.reply) mid answered history new
