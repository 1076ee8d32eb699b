-- The versions of a history that are retained (keynoted's own).
use Rattle.std.specs.Prelude.{ℕ, ◌+◌, Bool, ◌&&◌, nat_le, nat_lt, List, length, take, Option, Some, None, if◌then◌else◌}
use Rattle.kn_base.specs.declared.limits.TheConstants.{RETAINED_VERSIONS}
use Rattle.kn_history.specs.declared.update.Update.{Update}

-- of a history of so many updates the version of this number is retained: the newest ones are
abbrev pub is_retained : ℕ → ℕ → Bool
is_retained newest number = nat_le number newest && nat_lt newest (number + RETAINED_VERSIONS)

-- the updates of the version of this number, if it is retained
abbrev pub retained_version : List Update → ℕ → Option (List Update)
retained_version history number = if is_retained (length history) number then Some (take number history) else None
