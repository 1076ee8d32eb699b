-- Raising the levels of the affected principals to the least ones.
use Rattle.std.specs.Prelude.{ℕ, suc, ◌+◌, ◌-◌, ◌*◌, ◌≡◌, ◌<◌, ◌≤◌, Bool, true, false, List, [], ◌∷◌, length}
use Rattle.std.specs.Prelude.{slice_index, slice_index_or, slice_set, if◌then◌else◌}
use Rattle.kn_system.specs.Equations.{SystemEquations, row_at}
use Rattle.kn_system.specs.Lawful.{AreLevels}
use Rattle.kn_system.specs.Least.{worth, at_first, least_levels}
use Rattle.kn_system.specs.Order.{Below}
use Rattle.kn_watch.specs.Affected.{is_affected, affected_nodes, affected_principals}

-- the level from which a principal is raised: an affected one begins anew, and another keeps its level
abbrev pub start_level : SystemEquations → List Bool → List ℕ → ℕ → ℕ
start_level s affected values p =
    if is_affected affected p then (if slice_index_or s.requesters p false then s.levels - 1 else 0) else slice_index
    values p

-- each principal has this level
pub record AreStarted (s : SystemEquations) (affected : List Bool) (values levels : List ℕ) : Type 0 where
  pub size : length levels ≡ length s.requesters
  pub level : (p : ℕ) → p < length s.requesters → slice_index levels p ≡ start_level s affected values p

-- what a row is worth
abbrev pub row_worth : SystemEquations → List ℕ → ℕ → ℕ
row_worth s levels i = worth (s.levels - 1) levels (row_at s.rows i)

-- a row isn't worth more than its authorizer's level
abbrev pub IsClosedAt : SystemEquations → List ℕ → ℕ → Type 0
IsClosedAt s levels i = row_worth s levels i ≤ slice_index levels (row_at s.rows i).authorizer

-- From these levels the affected principals may be raised to the least levels: they are between those at first and the
-- least ones, and whatever the affected ones get, no row of another is worth more than its authorizer's level.
pub record IsStart (s : SystemEquations) (affected : List Bool) (start : List ℕ) : Type 0 where
  pub fit : AreLevels s start
  pub above : Below (at_first s) start
  pub below : Below start (least_levels s)
  pub closed :
      (levels : List ℕ) → ((p : ℕ) → is_affected affected p ≡ false → slice_index levels p ≡ slice_index start p)
      → (i : ℕ) → i < length s.rows → is_affected affected (row_at s.rows i).authorizer ≡ false → IsClosedAt s levels i

-- levels that the affected principals got meanwhile
pub record AreRaised (s : SystemEquations) (affected : List Bool) (start levels : List ℕ) : Type 0 where
  pub fit : AreLevels s levels
  pub above : Below start levels
  pub below : Below levels (least_levels s)
  pub others : (p : ℕ) → is_affected affected p ≡ false → slice_index levels p ≡ slice_index start p

-- whether a row has raised its authorizer, who is affected
abbrev pub IsRaise : SystemEquations → List Bool → ℕ → List ℕ → List ℕ → Bool → Type 0
IsRaise s affected i old new true =
    (is_affected affected (row_at s.rows i).authorizer ≡ true)
    × (slice_index old (row_at s.rows i).authorizer < row_worth s old i)
    × (new ≡ slice_set old (row_at s.rows i).authorizer (row_worth s old i))
IsRaise s affected i old new false = (new ≡ old)
    × (is_affected affected (row_at s.rows i).authorizer ≡ true → IsClosedAt s old i)

-- by how much the affected principals may rise
abbrev pub room_from : ℕ → List Bool → List ℕ → ℕ → ℕ
room_from top [] levels p = 0
room_from top (flag ∷ flags) levels p = (if flag then top - slice_index levels p else 0)
    + room_from top flags levels (suc p)

abbrev pub room : SystemEquations → List Bool → List ℕ → ℕ
room s affected levels = room_from (s.levels - 1) affected levels 0

-- whether one of the first rows has raised its authorizer
abbrev pub HasRisen : SystemEquations → List Bool → ℕ → List ℕ → List ℕ → Bool → Type 0
HasRisen s affected n old new true = room s affected new < room s affected old
HasRisen s affected n old new false = (new ≡ old)
    × ((i : ℕ) → i < n → is_affected affected (row_at s.rows i).authorizer ≡ true → IsClosedAt s old i)

-- the most steps of raising
abbrev pub raise_ticks : SystemEquations → List Bool → ℕ
raise_ticks s affected = affected_nodes affected s.rows * (affected_principals affected * (s.levels - 1) + 1)
