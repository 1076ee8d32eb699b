-- The rows of a base whose assertions come or go while it follows updates (keynoted's own).
use Rattle.std.specs.Prelude.{ℕ, ◌≡◌, ◌<◌, Bool, false, List, All, length, slice_get}
use Rattle.std.specs.List.{Contains}
use Rattle.kn_query.specs.declared.changed_rows.ChangedRows.{ChangedRows}

-- this row was noted, if they are few
abbrev pub HasRow : ChangedRows → ℕ → Type 0
HasRow changed row = changed.many ≡ false → Contains changed.rows.items row

-- each row that was noted is below this
abbrev pub AreBelow : ℕ → ChangedRows → Type 0
AreBelow count changed = All (λ row. row < count) changed.rows.items

-- Rows are noted while flags change: those whose flags change, all of them among the flags.
pub record NotesRows (old new : ChangedRows) (flags later : List Bool) : Type 0 where
  pub keeps : (row : ℕ) → HasRow old row → HasRow new row
  pub others : (row : ℕ) → (HasRow new row → ⊥) → slice_get flags row ≡ slice_get later row
  pub below : AreBelow (length flags) old → AreBelow (length flags) new
