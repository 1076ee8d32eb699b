-- Where a feed stands in the bytes that came.
use Rattle.std.specs.Prelude.{ℕ, ◌≡◌, ◌<◌, ◌≤◌, ◌⊎◌, ⊤, List, length, drop, Some, None}
use Rattle.kn_wire.specs.declared.cursor.Advanced.{Advanced}
use Rattle.kn_wire.specs.declared.cursor.Advanced.TheVariants as A
use Rattle.kn_wire.specs.declared.cursor.Cursor.{Cursor}
use Rattle.kn_wire.specs.declared.cursor.Stage.{Stage}
use Rattle.kn_wire.specs.declared.cursor.Stage.TheVariants as S
use Rattle.kn_wire.specs.Feeding.{Held, Bytes, InLong, Shut, next_of}
use Rattle.kn_wire.specs.Firsts.{HasNoneBelow, SpendsLine, SpendsBlock}
use Rattle.kn_wire.specs.Requests.{Faulty, line_length}

abbrev pub held_by : Stage → List ℕ → Held
held_by S.Reading text = Bytes text
held_by S.Skipping text = InLong
held_by (S.Refusing n) text = Shut n

-- what is held where these bytes came
abbrev pub held_at : Cursor → List ℕ → Held
held_at cursor bytes = held_by cursor.stage (drop cursor.from bytes)

-- what the cursor keeps is so of these bytes
pub record IsSound (cursor : Cursor) (bytes : List ℕ) : Type 0 where
  pub within : cursor.from ≤ length bytes
  pub clean : cursor.searched ≤ line_length (drop cursor.from bytes)
  pub none_below : HasNoneBelow cursor.needed (drop cursor.from bytes)

-- of these bytes the next request was spent, or there is none
abbrev pub Advances : Held → Advanced → List ℕ → Held → Type 0
Advances old A.Nothing bytes new = (next_of old ≡ None) × (new ≡ old)
Advances old (A.Line line) bytes new = SpendsLine old bytes line new
Advances old (A.WithBlock head block) bytes new = SpendsBlock old bytes head block new
Advances old (A.Refused fault) bytes new = next_of old ≡ Some (Faulty fault, new)

-- where nothing was spent, fewer bytes are held than hold a request, and unless all is as before, the first line was
-- searched to its end
abbrev pub Waits : Cursor → Advanced → List ℕ → Cursor → Type 0
Waits old A.Nothing bytes new = (length (drop new.from bytes) < new.needed)
    × ((new ≡ old) ⊎ (new.searched ≡ line_length (drop new.from bytes)))
Waits old (A.Line line) bytes new = ⊤
Waits old (A.WithBlock head block) bytes new = ⊤
Waits old (A.Refused fault) bytes new = ⊤
