-- Whom changed rows can't affect (keynoted's own).
use Rattle.std.specs.Prelude.{ℕ, ◌≡◌, ◌≤◌, Bool, true, false, Some, List, slice_get}
use Rattle.kn_system.specs.Counts.{IsWithin}
use Rattle.kn_system.specs.Equations.{SystemEquations, row_at}
use Rattle.kn_watch.specs.Affected.{HasUsers, IsSubset, affected_principals, is_affected, sum_over}
use Rattle.kn_watch.specs.Found.{spread_ticks}

-- the authorizers of these rows are affected
abbrev pub HasRows : SystemEquations → List ℕ → List Bool → Type 0
HasRows s rows affected = (i row : ℕ) → slice_get rows i ≡ Some row
    → is_affected affected (row_at s.rows row).authorizer ≡ true

-- A set of principals without this one has the authorizers of these rows and, with a principal, the authorizers of all
-- rows that use it.
pub record IsUnaffected (s : SystemEquations) (rows : List ℕ) (principal : ℕ) : Type 0 where
  pub affected : List Bool
  pub has_rows : HasRows s rows affected
  pub users : HasUsers s affected
  pub without : is_affected affected principal ≡ false

-- It is known of each principal for whom there is such a set of at most so many.
abbrev pub IsKnown : SystemEquations → List ℕ → ℕ → ℕ → Bool → Type 0
IsKnown s rows principal most known =
    (affected : List Bool) → HasRows s rows affected → HasUsers s affected → is_affected affected principal ≡ false
    → affected_principals affected ≤ most → known ≡ true

-- The steps are those of finding the users of at most so many of the others.
pub record IsSearched (s : SystemEquations) (others : List Bool) (most old new : ℕ) : Type 0 where
  pub searched : List Bool
  pub among : IsSubset searched others
  pub few : affected_principals searched ≤ most
  pub ticks : IsWithin (sum_over (spread_ticks s others) 0 searched) old new

-- a set of at most so many principals, without this one
pub record IsFewWithout (without most : ℕ) (others : List Bool) : Type 0 where
  pub few : affected_principals others ≤ most
  pub lacks : is_affected others without ≡ false
