-- Levels and statements as the plain programs keep them.
use Rattle.std.specs.Prelude.{ℕ, zero, suc, List, [], ◌∷◌, ◌++◌, ◌*◌, length, map, if◌then◌else◌}
use Rattle.std.specs.Str.{bytes_eq}
use Rattle.kn_meaning.specs.Formulas.{Levels}
use Rattle.kn_meaning.specs.Equations.{Statement, Equations, round}
use Rattle.kn_meaning.specs.declared.plain.Level.{Level}
use Rattle.kn_meaning.specs.declared.plain.Stated.{Stated}

-- the level that a table first gives a name, and 0 where it has none
abbrev pub level_in : List Level → Levels
level_in [] name = 0
level_in (l ∷ ls) name = if bytes_eq l.name name then l.level else level_in ls name

abbrev pub statement_in : Stated → Statement
statement_in s = record { id = s.id; authorizer = s.authorizer; ceiling = s.ceiling; licensees = s.licensees }

-- the equations of a table of statements
abbrev pub equations_from : ℕ → List (List ℕ) → List Stated → Equations
equations_from top requesters stated =
    record { top = top; requesters = requesters; statements = map statement_in stated }

-- these entries with the levels that one more round after a table gives them
abbrev pub next_levels_of : Equations → List Level → List Level → List Level
next_levels_of e table [] = []
next_levels_of e table (l ∷ ls) = record { name = l.name; level = round e (level_in table) l.name }
    ∷ next_levels_of e table ls

-- a table with the levels of the next round
abbrev pub next_table : Equations → List Level → List Level
next_table e table = next_levels_of e table table

abbrev pub entry_of : List ℕ → ℕ → Level
entry_of name level = record { name = name; level = level }

abbrev pub entries_of : ℕ → List (List ℕ) → List Level
entries_of level [] = []
entries_of level (name ∷ names) = entry_of name level ∷ entries_of level names

abbrev pub authorizers_of : List Stated → List Level
authorizers_of [] = []
authorizers_of (s ∷ ss) = entry_of s.authorizer 0 ∷ authorizers_of ss

-- the requesters at the top, and the authorizers at 0
abbrev pub first_table : ℕ → List (List ℕ) → List Stated → List Level
first_table top requesters stated = entries_of top requesters ++ authorizers_of stated

-- the table after so many rounds
abbrev pub table_after : Equations → List Level → ℕ → List Level
table_after e first zero = first
table_after e first (suc n) = next_table e (table_after e first n)

-- the table after as many rounds as it has entries times the top
abbrev pub last_table : ℕ → List (List ℕ) → List Stated → List Level
last_table top requesters stated =
    table_after (equations_from top requesters stated) (first_table top requesters stated)
    (length (first_table top requesters stated) * top)
