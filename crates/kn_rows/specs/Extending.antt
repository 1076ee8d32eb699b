-- Names that get numbers behind others, while a system is built.
use Rattle.std.specs.Prelude.{ℕ, ◌≡◌, ◌+◌, ◌≤◌, ◌⊎◌, true, List, [], ◌∷◌, ◌++◌, length}
use Rattle.std.specs.List.{list_any}
use Rattle.std.specs.Str.{bytes_eq}
use Rattle.kn_trees.specs.declared.assertion.Assertion.{Assertion}
use Rattle.kn_trees.specs.Formulas.{field_nodes}
use Rattle.kn_meaning.specs.Equations.{Equations, Statement}
use Rattle.kn_meaning.specs.Occurring.{licensees_names}
use Rattle.kn_system.specs.Rows.{SystemRow}
use Rattle.kn_rows.specs.declared.numbered.Numbered.{Numbered}
use Rattle.kn_rows.specs.Numbering.{IsNumber, AreDistinct, AreNumbered, HaveNumbers, IsSystemOf}
use Rattle.kn_rows.specs.BaseRows.{IsBaseRow}
use Rattle.kn_rows.specs.Narrowing.{narrowed_assertion}

-- the names keep their numbers
abbrev pub Keeps : List (List ℕ) → List (List ℕ) → Type 0
Keeps old new = (p : ℕ) (name : List ℕ) → IsNumber old name p → IsNumber new name p

-- a name that has a number had one before, or is one of these
abbrev pub AddsOnly : List (List ℕ) → List (List ℕ) → List (List ℕ) → Type 0
AddsOnly added old new = (p : ℕ) (name : List ℕ) → IsNumber new name p → ((q : ℕ) × IsNumber old name q)
    ⊎ (list_any (bytes_eq name) added ≡ true)

-- names keep their numbers, these have numbers, and no others have got any
pub record AddsNames (added old new : List (List ℕ)) : Type 0 where
  pub keeps : Keeps old new
  pub all : HaveNumbers added new
  pub only : AddsOnly added old new

-- the query with one more statement, behind the others
abbrev pub with_statement : Equations → Statement → Equations
with_statement e statement = record e { statements = e.statements ++ statement ∷ [] }

-- These principals have numbers, of which at most n, that are no requesters, got theirs here, and the system states
-- what the same queries do.
pub record Extends (n : ℕ) (added : List (List ℕ)) (old new : Numbered) : Type 0 where
  pub names : AddsNames added old.names new.names
  pub few : length new.names ≤ length old.names + n
  pub one_each : length new.names ≡ length new.system.requesters
  pub distinct : AreDistinct old.names → AreDistinct new.names
  pub levels : new.system.levels ≡ old.system.levels
  pub rows : new.system.rows ≡ old.system.rows
  pub same : (e : Equations) → IsSystemOf e old.names old.system → IsSystemOf e new.names new.system

-- The requester has a number, and nothing else has changed.
pub record AddsRequester (name : List ℕ) (old new : Numbered) : Type 0 where
  pub names : AddsNames (name ∷ []) old.names new.names
  pub few : length new.names ≤ length old.names + 1
  pub one_each : length new.names ≡ length new.system.requesters
  pub levels : new.system.levels ≡ old.system.levels
  pub rows : new.system.rows ≡ old.system.rows
  pub numbered : (requesters : List (List ℕ)) → list_any (bytes_eq name) requesters ≡ true
      → AreNumbered requesters old.names old.system.requesters → AreNumbered requesters new.names new.system.requesters

-- A row was added behind the others, which is the assertion's and has this ceiling, and its principals have numbers.
pub record AddsRow (assertion : Assertion) (ceiling : ℕ) (old new : Numbered) : Type 0 where
  pub row : SystemRow
  pub names : AddsNames (assertion.authorizer ∷ licensees_names assertion.licensees) old.names new.names
  pub few : length new.names ≤ length old.names + (2 + field_nodes assertion.licensees)
  pub one_each : length new.names ≡ length new.system.requesters
  pub distinct : AreDistinct old.names → AreDistinct new.names
  pub levels : new.system.levels ≡ old.system.levels
  pub rows : new.system.rows ≡ old.system.rows ++ row ∷ []
  pub short : length row.formula ≤ 1 + field_nodes assertion.licensees
  pub capped : row.ceiling ≡ ceiling
  pub is : IsBaseRow new.names assertion row
  pub same : (e : Equations) → IsSystemOf e old.names old.system
      → IsSystemOf e new.names (record new.system { rows = old.system.rows })

-- A row was added behind the others, which is the assertion's narrowed to the names, and no name was.
pub record AddsNarrowedRow (assertion : Assertion) (ceiling : ℕ) (old new : Numbered) : Type 0 where
  pub row : SystemRow
  pub names : new.names ≡ old.names
  pub system : new.system ≡ record old.system { rows = old.system.rows ++ row ∷ [] }
  pub short : length row.formula ≤ 1 + field_nodes assertion.licensees
  pub capped : row.ceiling ≡ ceiling
  pub is : IsBaseRow old.names (narrowed_assertion old.names assertion) row
