-- A permitted reply to LOG is of the history at its place.
use Rattle.std.proofs.Common.{ℕ, ◌≡◌, ◌≤◌, List, length}
use Rattle.kn_history.specs.declared.update.Update.{Update}
use Rattle.kn_reply.specs.Replies.{Log}
use Rattle.kn_daemon.specs.Shapes.{ForLog, Looks}
use Rattle.kn_daemon.specs.Daemon.{DaemonConfig, State, Permits}

pub log-of-place : (g : DaemonConfig) (caller : ℕ) (past : List Update) (old : State) (n m : ℕ) (history : List Update)
    (new : State)
    → Permits g caller past old (Looks (ForLog n)) (Log m history) new
    → (m ≡ n) × (history ≡ past) × (n ≤ length past) × (new ≡ old)
log-of-place g caller past old n m history new p =
    let told : Log m history ≡ Log n past = p.answered.1 in
    (cc told, cc told, p.answered.0, p.next)
