-- The room for versions that are retained beside the newest one.
use Rattle.std.specs.Prelude.{◌+◌, ◌<◌, ◌≤◌, length}
use Rattle.kn_base.specs.declared.limits.TheConstants.{RETAINED_VERSIONS}
use Rattle.kn_store.specs.declared.earlier.Earlier.TheInside.{Inside}

pub record HasRoom (e : Inside) : Type 0 where
  pub few : length e.versions.items < RETAINED_VERSIONS
  pub room : RETAINED_VERSIONS ≤ length e.versions.items + e.versions.spare + 1
