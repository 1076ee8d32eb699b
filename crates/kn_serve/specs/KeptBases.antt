-- The bases that are kept from one question to the next (keynoted's own). What the updates of a history made first is
-- one version, which is known by its number.
use Rattle.std.specs.Prelude.{ℕ, ◌≡◌, List, length, take, Some, IfSome}
use Rattle.kn_history.specs.declared.update.Update.{Update}
use Rattle.kn_session.specs.Sessions.{Session}
use Rattle.kn_daemon.specs.Daemon.{State, session_of}
use Rattle.kn_query.specs.declared.kept_bases.KeptBases.{KeptBases}
use Rattle.kn_query.specs.KeptBases.{EachKept}
use Rattle.kn_query.specs.SharedBases.{IsOfVersion}

-- the updates of the version are the first ones of this history
abbrev pub IsFirstOf : List Update → List Update → Type 0
IsFirstOf version history = version ≡ take (length version) history

-- a session is pinned to a version of this history, and its standing query is over one
pub record IsPinned (history : List Update) (session : Session) : Type 0 where
  pub pin : IsFirstOf session.pinned history
  pub standing : IfSome session.standing (λ query. IsFirstOf query.pinned history)

-- so is each open session
abbrev pub ArePinned : List Update → State → Type 0
ArePinned history state =
    (s : ℕ) (session : Session) → session_of state s ≡ Some session → IsPinned history session

-- each base that is kept is of that version of this history whose number it has
abbrev pub IsKept : List Update → KeptBases → Type 0
IsKept history kept = EachKept (λ shared. IsOfVersion (take shared.number history) shared) kept

-- each open session and each base that is kept are of one history
pub record AreAllOfOne (state : State) (kept : KeptBases) : Type 0 where
  pub history : List Update
  pub pinned : ArePinned history state
  pub is : IsKept history kept

-- what is kept is of each history of which the open sessions are, and of which it was
abbrev pub StaysOf : State → KeptBases → KeptBases → Type 0
StaysOf state old new = (history : List Update) → ArePinned history state → IsKept history old → IsKept history new
