-- What reading changes.
use Rattle.std.specs.Prelude.{ℕ, ◌≡◌, List}
use Rattle.kn_outside.specs.Seen.{LinkSeen}
use Rattle.kn_outside.specs.SpecifiedBytes.{more, before}
use Rattle.kn_outside.specs.Faults.{Rose}

-- these bytes, which are the next of the input, were read, and nothing else changed
pub record Reads (bytes : List ℕ) (l l' : LinkSeen) : Type 0 where
  pub taken : l' ≡ record l { taken = more bytes l.taken; left = l'.left }
  pub left : l.left ≡ before bytes l'.left

-- a call failed, and nothing else changed
pub record Fails (l l' : LinkSeen) : Type 0 where
  pub same : l' ≡ record l { faults = l'.faults }
  pub rose : Rose l.faults l'.faults
