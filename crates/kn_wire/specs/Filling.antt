-- A piece that is read from a link (keynoted's own).
use Rattle.std.specs.Prelude.{ℕ, ◌≡◌, ◌≤◌, List, [], length, Result, Ok, Err, IfSome}
use Rattle.kn_outside.specs.declared.failed.Failed.{Failed}
use Rattle.kn_outside.specs.Reading.{Reads, Fails}
use Rattle.kn_outside.specs.Seen.{LinkSeen}
use Rattle.kn_wire.specs.Feeding.{Held, with_piece}

-- a piece of so many bytes was read and added; there is none only at the end of the input
pub record AddsPiece (old new : Held) (l l' : LinkSeen) (bytes : ℕ) : Type 0 where
  pub piece : List ℕ
  pub size : length piece ≡ bytes
  pub added : new ≡ with_piece old piece
  pub read : Reads piece l l'
  pub over : bytes ≡ 0 → IfSome l'.left (λ left. left ≡ [])

-- a piece was added; or the call of the link failed, and this is held as before
abbrev pub IsFilled : Held → Held → LinkSeen → LinkSeen → Result ℕ Failed → Type 0
IsFilled old new l l' (Ok bytes) = AddsPiece old new l l' bytes
IsFilled old new l l' (Err failed) = (new ≡ old) × Fails l l' × (l.faults ≤ l'.faults)
