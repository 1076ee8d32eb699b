-- A caller that is alone (keynoted's own): a history grows by its own updates only.
use Rattle.std.specs.Prelude.{ℕ, ◌≡◌, ◌≤◌, ◌-◌, Bool, false, List, [], ◌∷◌, ◌++◌, length, take, option_to_list}
use Rattle.std.specs.List.{list_any}
use Rattle.kn_base.specs.declared.limits.TheConstants.{REQUESTS}
use Rattle.kn_history.specs.declared.update.Update.{Update}
use Rattle.kn_wire.specs.Requests.{Takes}
use Rattle.kn_daemon.specs.declared.ended.Ended.{Ended}
use Rattle.kn_daemon.specs.Shapes.{shape_of}
use Rattle.kn_daemon.specs.Daemon.{DaemonConfig, State, Permits, first_state}
use Rattle.kn_daemon.specs.Linearized.{Exchange, update_of, requests_in, texts_in}
use Rattle.kn_daemon.specs.Served.{IsWritten, HasEnd, is_bye}

-- the history with the update of an exchange, if it has one
abbrev pub history_with : ℕ → List Update → Exchange → List Update
history_with caller past e = past ++ option_to_list (update_of caller e)

-- A run of one thread with no other caller: each reply is permitted behind the updates so far and its own, and these
-- are the whole history in the end. So each place follows from the replies.
abbrev pub RunsAlone : DaemonConfig → ℕ → List Update → State → List Exchange → List Update → State → Type 0
RunsAlone g caller past old [] history new = (history ≡ past) × (new ≡ old)
RunsAlone g caller past old (e ∷ es) history new = (mid : State)
    × Permits g caller (history_with caller past e) old (shape_of e.request) e.reply mid
    × RunsAlone g caller (history_with caller past e) mid es history new

-- A connection of a caller that is alone, served: the bytes taken and written, how it ended, whether the input had
-- ended, and the history before and afterwards.
pub record IsServedAlone (g : DaemonConfig) (taken written : List ℕ) (ended : Ended) (is_over : Bool)
    (past history : List Update) (caller : ℕ) : Type 0 where
  pub exchanges : List Exchange
  pub rest : List ℕ
  pub last : State
  pub requests : Takes taken (requests_in exchanges) rest
  pub replies : RunsAlone g caller past first_state exchanges history last
  pub bytes : IsWritten ended written (texts_in exchanges)
  pub one_bye : list_any is_bye (take (length exchanges - 1) (requests_in exchanges)) ≡ false
  pub count : length exchanges ≤ REQUESTS
  pub why : HasEnd ended is_over (requests_in exchanges) rest
