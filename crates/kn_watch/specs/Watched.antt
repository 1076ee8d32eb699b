-- A system whose least levels were found before ceilings of it changed, and before rows and principals were added.
use Rattle.std.specs.Prelude.{ℕ, suc, ◌≡◌, ◌==◌, ◌-◌, ◌<◌, ◌≤◌, false, List, [], ◌∷◌, ◌++◌, length, replicate}
use Rattle.std.specs.Prelude.{slice_index, if◌then◌else◌}
use Rattle.kn_settle.specs.QuerySystem.{capped_from}
use Rattle.kn_system.specs.Equations.{SystemEquations, with_row_ceiling, row_at}
use Rattle.kn_system.specs.Least.{least_levels}
use Rattle.kn_system.specs.Rows.{SystemRow}
use Rattle.kn_watch.specs.declared.changed.Changed.{Changed}

-- the least levels that a system had, and the ceilings of its rows
pub record WatchedLevels : Type 0 where
  pub levels : List ℕ
  pub ceilings : List ℕ

-- the system with the ceilings that it had; rows behind their end had 0
abbrev pub former_system : List ℕ → SystemEquations → SystemEquations
former_system ceilings s = record { levels = s.levels; requesters = s.requesters; rows = capped_from ceilings 0 s.rows }

-- the levels are the least ones of the system as it was, where principals behind their end have 0
pub record IsWatchedOf (watched : WatchedLevels) (s : SystemEquations) : Type 0 where
  pub before : watched.levels ++ replicate (length s.requesters - length watched.levels) 0
      ≡ least_levels (former_system watched.ceilings s)
  pub within : length watched.ceilings ≤ length s.rows

-- these are the ceilings of the rows
pub record AreCeilings (rows : List SystemRow) (ceilings : List ℕ) : Type 0 where
  pub size : length ceilings ≡ length rows
  pub each : (i : ℕ) → i < length rows → slice_index ceilings i ≡ (row_at rows i).ceiling

-- the i-th row, if its ceiling isn't the one that it had
abbrev pub change_of : List ℕ → ℕ → SystemRow → List Changed
change_of ceilings i row =
    if row.ceiling == slice_index ceilings i then [] else (record { row = i; before = slice_index ceilings i }) ∷ []

-- the rows from the i-th on whose ceilings aren't those that they had
abbrev pub changes_from : List ℕ → ℕ → List SystemRow → List Changed
changes_from ceilings i [] = []
changes_from ceilings i (row ∷ rows) = change_of ceilings i row ++ changes_from ceilings (suc i) rows

-- each row's authorizer is one of so many principals
abbrev pub HaveAuthorizers : ℕ → List SystemRow → Type 0
HaveAuthorizers n rows = (i : ℕ) → i < length rows → (row_at rows i).authorizer < n

-- the system with a row more, and so many principals that are no requesters
abbrev pub with_system_row : SystemEquations → SystemRow → ℕ → SystemEquations
with_system_row s row n =
    record { levels = s.levels; requesters = s.requesters ++ replicate n false; rows = s.rows ++ row ∷ [] }

-- a ceiling may change
abbrev pub CeilingsMayChange : Type 0
CeilingsMayChange =
    (watched : WatchedLevels) (s : SystemEquations) (i ceiling : ℕ) → IsWatchedOf watched s
    → IsWatchedOf watched (record s { rows = with_row_ceiling s.rows i ceiling })

-- a row may be added, and principals
abbrev pub RowsMayBeAdded : Type 0
RowsMayBeAdded =
    (watched : WatchedLevels) (s : SystemEquations) (row : SystemRow) (n : ℕ) → IsWatchedOf watched s
    → HaveAuthorizers (length s.requesters) s.rows → IsWatchedOf watched (with_system_row s row n)
