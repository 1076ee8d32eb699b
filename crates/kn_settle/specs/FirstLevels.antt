-- Who has a level when the first requesters have theirs.
use Rattle.std.specs.Prelude.{ℕ, ◌≡◌, ◌<◌, ◌-◌, List, length, slice_index, if◌then◌else◌}
use Rattle.kn_system.specs.Equations.{SystemEquations}
use Rattle.kn_settle.specs.QuerySystem.{is_among}

-- these requesters have the top level, and nobody else has one
pub record AreBegun (s : SystemEquations) (levels requesters : List ℕ) : Type 0 where
  pub size : length levels ≡ length s.requesters
  pub level : (p : ℕ) → p < length s.requesters
      → slice_index levels p ≡ (if is_among p requesters then s.levels - 1 else 0)
