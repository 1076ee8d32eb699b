-- Where an id stands among live credentials in pages.
use Rattle.std.specs.Prelude.{ℕ, ◌≡◌, ◌==◌, ◌<◌, Bool, true, nat_lt, List, [], ◌∷◌, length, Some}
use Rattle.std.specs.Prelude.{slice_get, slice_index_or}
use Rattle.std.specs.List.{list_any}
use Rattle.kn_history.specs.History.{NumberedText}

-- one of these credentials has the id
abbrev pub has_id : ℕ → List NumberedText → Bool
has_id id credentials = list_any (λ c. c.id == id) credentials

-- the last id is below this
abbrev pub ends_before : ℕ → List NumberedText → Bool
ends_before id [] = true
ends_before id (c ∷ []) = nat_lt c.id id
ends_before id (c ∷ next ∷ credentials) = ends_before id (next ∷ credentials)

-- a credential of this id stands at a place
pub record IsIdAt (id : ℕ) (credentials : List NumberedText) (place : ℕ) : Type 0 where
  pub credential : NumberedText
  pub there : slice_get credentials place ≡ Some credential
  pub same : credential.id ≡ id

-- a credential of this id stands at a place of a page
pub record IsPlaceOf (id : ℕ) (pages : List (List NumberedText)) (page place : ℕ) : Type 0 where
  pub in_range : page < length pages
  pub there : IsIdAt id (slice_index_or pages page []) place
