-- A connection that is being served (keynoted's own): what the serving loop keeps.
use Rattle.std.specs.Prelude.{ℕ, ◌≡◌, false, List, ◌++◌, length, drop, flat_map, filter_map, option_to_list, ◌≤◌, Some}
use Rattle.kn_history.specs.declared.update.Update.{Update}
use Rattle.kn_wire.specs.Requests.{Takes}
use Rattle.kn_reply.specs.Replies.{Reply}
use Rattle.kn_daemon.specs.Shapes.{Shape}
use Rattle.kn_daemon.specs.Daemon.{DaemonConfig, State, first_state, session_of, Permits}
use Rattle.kn_session.specs.Sessions.{Session}
use Rattle.kn_daemon.specs.Linearized.{Exchange, Along, InOrder, StopsAt, StandsFor, is_placed, update_of, update_by}
use Rattle.kn_daemon.specs.Linearized.{requests_in, texts_in}
use Rattle.kn_wire.specs.Feeding.{Held, held_bytes, with_piece, is_shut}
use Rattle.kn_daemon.specs.Served.{GoesOn}
use Rattle.kn_history.specs.History.{own_updates}

-- One request of this shape was answered while the caller saw these updates behind the history: the reply is permitted
-- behind them, the caller's own among them is that of the request, and the turn was had at the entries.
pub record IsReplied (g : DaemonConfig) (caller : ℕ) (history more : List Update) (entries : List ℕ) (old : State)
    (shape : Shape) (reply : Reply) (new : State) : Type 0 where
  pub permitted : Permits g caller (history ++ more) old shape reply new
  pub own : own_updates caller more ≡ option_to_list (update_by caller shape reply)
  pub stood : StandsFor (is_placed shape reply) (length (history ++ more)) entries

-- So far these bytes were taken and written, the caller has seen this history, the turn was had at `stops`, the
-- connection is in this state, this is held, and so many requests were answered, of which none ends the connection.
-- Whatever more bytes come, the requests answered are the first ones.
pub record IsUnderway (g : DaemonConfig) (taken written : List ℕ) (history : List Update) (start caller : ℕ)
    (stops : List ℕ)
    (state : State) (held : Held) (answered : ℕ) : Type 0 where
  pub exchanges : List Exchange
  pub requests : (more : List ℕ) → Takes (taken ++ more) (requests_in exchanges) (held_bytes (with_piece held more))
  pub not_shut : is_shut held ≡ false
  pub goes_on : GoesOn (requests_in exchanges)
  pub count : length exchanges ≡ answered
  pub replies : Along g caller history first_state exchanges state
  pub in_order : InOrder caller start exchanges (length history)
  pub own : own_updates caller (drop start history) ≡ filter_map (update_of caller) exchanges
  pub stopped : StopsAt exchanges stops
  pub bytes : written ≡ flat_map (λ text. text) (texts_in exchanges)

-- at most so many sessions were started, and at most so many private assertions were ever added to each open one
pub record IsSmall (n : ℕ) (state : State) : Type 0 where
  pub started : state.started ≤ n
  pub made : (s : ℕ) (session : Session) → session_of state s ≡ Some session → session.made ≤ n
