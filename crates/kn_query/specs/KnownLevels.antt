-- A value that a query had over an earlier version (keynoted's own).
use Rattle.std.specs.Prelude.{ℕ, ◌≤◌, List, length, take}
use Rattle.kn_meaning.specs.Equations.{IsPolicyLevel}
use Rattle.kn_session.specs.Sessions.{Session, pin_at}
use Rattle.kn_daemon.specs.Daemon.{equations_of}
use Rattle.kn_query.specs.declared.level.KnownLevel.{KnownLevel}

-- the value was what the session asks, over the version of that number, which is no later than its own
pub record IsEarlierLevel (session : Session) (values : List (List ℕ)) (known : KnownLevel) : Type 0 where
  pub earlier : known.version ≤ length session.pinned
  pub level : IsPolicyLevel (equations_of (pin_at (take known.version session.pinned) session) values) known.level
