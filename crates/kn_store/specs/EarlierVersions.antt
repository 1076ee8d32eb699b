-- The versions that a book keeps beside its newest one.
use Rattle.std.specs.Prelude.{ℕ, ◌≡◌, ◌<◌, ◌≤◌, ◌⊎◌, ◌+◌, nat_lt, List, [], ◌∷◌, ◌++◌, remove, length, take}
use Rattle.std.specs.Prelude.{Some, slice_get, if◌then◌else◌}
use Rattle.kn_base.specs.declared.limits.TheConstants.{RETAINED_VERSIONS}
use Rattle.kn_history.specs.declared.update.Update.{Update}

-- these versions and one behind them, without the first where there are as many as are retained beside the newest
abbrev pub with_version : List (List Update) → List Update → List (List Update)
with_version versions version =
    if nat_lt (length versions + 1) RETAINED_VERSIONS then versions ++ version ∷ []
    else remove versions 0 ++ version ∷ []

-- Where so many more updates are to come: the last versions before the newest one, the oldest first, each with its
-- number. They are at least those that are retained behind these updates too, and at most 15; where 16 or more updates
-- are to come there are none of them.
pub record AreLeft (more : ℕ) (history : List Update) (versions : List (List Update)) : Type 0 where
  pub first : ℕ
  pub count : first + length versions ≡ length history
  pub each : (i : ℕ) → i < length versions → slice_get versions i ≡ Some (take (first + i) history)
  pub few : length versions < RETAINED_VERSIONS
  pub all : (first ≡ 0) ⊎ (RETAINED_VERSIONS ≤ length versions + 1 + more)
  pub none : RETAINED_VERSIONS ≤ more → versions ≡ []

-- exactly the versions before the newest one that are retained, the oldest first
abbrev pub AreEarlier : List Update → List (List Update) → Type 0
AreEarlier history versions = AreLeft 0 history versions
