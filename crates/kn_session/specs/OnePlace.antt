-- Where one item of a list passes a test.
use Rattle.std.specs.Prelude.{ℕ, ◌≡◌, ◌<◌, Bool, true, not, List, length, map, filter, find, remove, slice_index_or}
use Rattle.std.specs.Prelude.{slice_set, Some, if◌then◌else◌}

-- The item at this place passes the test, and no other one does. So it is the one found, a change of it is a change of
-- what passes, and without it the others are left.
pub record IsOneAt {X : Type 0} (p : X → Bool) (xs : List X) (i : ℕ) : Type 0 where
  pub within : i < length xs
  pub passes : (d : X) → p (slice_index_or xs i d) ≡ true
  pub found : (d : X) → find p xs ≡ Some (slice_index_or xs i d)
  pub same : (d : X) → slice_set xs i (slice_index_or xs i d) ≡ xs
  pub changed : (f : X → X) (d : X) → slice_set xs i (f (slice_index_or xs i d)) ≡ map (λ x. if p x then f x else x) xs
  pub others : remove xs i ≡ filter (λ x. not (p x)) xs
