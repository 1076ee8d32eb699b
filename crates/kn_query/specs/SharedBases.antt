-- Which version a base is of (keynoted's own).
use Rattle.std.specs.Prelude.{◌≡◌, ◌+◌, ◌≤◌, true, List, ◌++◌, drop, length, replicate, take}
use Rattle.kn_base.specs.declared.limits.TheConstants.{LIVE_BYTES}
use Rattle.kn_proof.specs.declared.named.Id.TheVariants.{Shared}
use Rattle.kn_history.specs.declared.update.Update.{Update}
use Rattle.kn_history.specs.History.{NumberedText, additions, all_changes, credentials_of}
use Rattle.kn_daemon.specs.Daemon.{parts_of}
use Rattle.kn_system.specs.Equations.{node_total}
use Rattle.kn_rows.specs.BaseRows.{IsBaseOf}
use Rattle.kn_query.specs.Following.{AreUpTo, live_credentials}
use Rattle.kn_query.specs.Steady.{IsSteady}
use Rattle.kn_query.specs.declared.shared_base.SharedBase.{SharedBase}

-- The base has a row for each of its credentials, and for each of them it is known whether it is still there.
pub record HasRows (shared : SharedBase) : Type 0 where
  pub of : IsBaseOf (parts_of Shared shared.rows) shared.base.names shared.base.system
  pub flags : length shared.base.live ≡ length shared.rows

-- The base is of the credentials of the version that these updates made: they are those of its rows that are still
-- there. No row has an id that comes later. Over each of the versions of which it is known, the policy has the level
-- that it has over this one.
pub record HasCredentials (version : List Update) (shared : SharedBase) : Type 0 where
  pub number : shared.number ≡ length version
  pub has_rows : HasRows shared
  pub live : live_credentials shared.rows shared.base.live ≡ credentials_of version
  pub newest : AreUpTo (additions (all_changes version)) shared.rows
  pub steady : IsSteady version shared.steady

-- What is still there of an earlier version are the credentials that it has in common with this one; those that are
-- new stand behind them.
pub record LacksAdditions (version : List Update) (shared : SharedBase) : Type 0 where
  pub earlier : shared.number ≤ length version
  pub has_rows : HasRows shared
  pub live : credentials_of version
      ≡ live_credentials shared.rows shared.base.live ++ credentials_of (drop shared.number version)
  pub newest : AreUpTo (additions (all_changes (take shared.number version))) shared.rows

-- The rows of a base stand in front of those of another one, whose further ones are all still there.
pub record GoesOnFrom (old new : SharedBase) : Type 0 where
  pub more : List NumberedText
  pub rows : new.rows ≡ old.rows ++ more
  pub live : new.base.live ≡ old.base.live ++ replicate (length more) true

-- And it is so small that there is room for the requesters of a query and for the private assertions of a session.
pub record IsOfVersion (version : List Update) (shared : SharedBase) : Type 0 where
  pub credentials : HasCredentials version shared
  pub few_names : length shared.base.names ≤ 1 + LIVE_BYTES
  pub few_nodes : node_total shared.base.system.rows ≤ LIVE_BYTES

-- If it is of no later version, it is of what the first updates of this one made.
abbrev pub IsOfHistory : List Update → SharedBase → Type 0
IsOfHistory version shared = shared.number ≤ length version → IsOfVersion (take shared.number version) shared
