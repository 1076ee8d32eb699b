-- The open sessions of a connection as a whole (keynoted's own).
use Rattle.std.specs.Prelude.{ℕ, ◌≤◌, List, map, length, nat_eq, Option}
use Rattle.std.specs.List.{AllByRecursion, IsDistinct}
use Rattle.kn_base.specs.declared.limits.TheConstants.{SESSIONS}
use Rattle.kn_session.specs.declared.fault.SessionFault.{SessionFault}
use Rattle.kn_session.specs.Sessions.{Session, OpenSessions, session_in, with_changed, without_session, fault_in}

-- the fault of a call on the session of this number
abbrev pub fault_at : OpenSessions → ℕ → (Session → Option SessionFault) → Option SessionFault
fault_at state s fault = fault_in s (session_in state.sessions s) fault

-- this session changed, and the others as they were
abbrev pub with_open_session : OpenSessions → ℕ → (Session → Session) → OpenSessions
with_open_session state s change = record state { sessions = with_changed state.sessions s change }

-- this session gone, and the others as they were
abbrev pub with_closed : OpenSessions → ℕ → OpenSessions
with_closed state s = record state { sessions = without_session state.sessions s }

-- numbers of open sessions: not too many, each of those that were given, and no two of them equal
pub record AreNumbers (started : ℕ) (numbers : List ℕ) : Type 0 where
  pub few : length numbers ≤ SESSIONS
  pub given : AllByRecursion (λ k. k ≤ started) numbers
  pub different : IsDistinct nat_eq numbers

-- what holds of the open sessions
abbrev pub AreOpen : ℕ → List Session → Type 0
AreOpen started sessions = AreNumbers started (map (λ x. x.number) sessions)
