-- What printing a text changes.
use Rattle.std.specs.Prelude.{ℕ, ◌≡◌, ◌<◌, ◌≤◌, Bool, true, false, List, length, take, Result, Ok, Err}
use Rattle.kn_outside.specs.Seen.{LinkSeen}
use Rattle.kn_outside.specs.SpecifiedBytes.{more}
use Rattle.kn_outside.specs.Faults.{Rose}

-- whether a text was written whole
abbrev pub is_whole : {T E : Type 0} → Result T E → Bool
is_whole (Ok t) = true
is_whole (Err e) = false

-- this text was written, or where that failed a front of it and not all; nothing else changed
abbrev pub Writes : Bool → List ℕ → LinkSeen → LinkSeen → Type 0
Writes true text l l' = l' ≡ record l { written = more text l.written }
Writes false text l l' = (n : ℕ) × (n < length text) × Rose l.faults l'.faults
    × (l' ≡ record l { written = more (take n text) l.written; faults = l'.faults })

-- the same, and the count of faults didn't fall
pub record Prints (whole : Bool) (text : List ℕ) (l l' : LinkSeen) : Type 0 where
  pub writes : Writes whole text l l'
  pub later : l.faults ≤ l'.faults
