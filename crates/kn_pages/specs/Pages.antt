-- Lists in pages.
use Rattle.std.specs.Prelude.{ℕ, ◌≡◌, ◌+◌, ◌≤◌, nat_lt, List, [], ◌∷◌, ◌++◌, length, map, take, drop, remove}
use Rattle.std.specs.Prelude.{flat_map, slice_index_or, if◌then◌else◌}
use Rattle.std.specs.Arc.{arc_value}
use Rattle.std.specs.declared.sync.Arc.{Arc}
use Rattle.std.specs.declared.alloc.Global.{Global}

module _ {T : Type 0} where
  -- pages that are shared, each of them as the list of its items
  abbrev pub pages_of : List (Arc (List T) Global) → List (List T)
  pages_of pages = map arc_value pages

  -- all items in their order
  abbrev pub joined : List (List T) → List T
  joined pages = flat_map (λ page. page) pages

  -- each page has one item at least, and so many at most
  abbrev pub AreSized : ℕ → List (List T) → Type 0
  AreSized most [] = Unit {0}
  AreSized most (page ∷ pages) = (1 ≤ length page) × (length page ≤ most) × AreSized most pages

  -- each page has so many items but the last, which has one at least, and so many at most
  abbrev pub AreFilled : ℕ → List (List T) → Type 0
  AreFilled most [] = Unit {0}
  AreFilled most (page ∷ []) = (1 ≤ length page) × (length page ≤ most)
  AreFilled most (page ∷ next ∷ pages) = (length page ≡ most) × AreFilled most (next ∷ pages)

  -- these pages with an item at the end: the last page has it, or where that is full a new one
  abbrev pub with_item : ℕ → List (List T) → T → List (List T)
  with_item most [] item = (item ∷ []) ∷ []
  with_item most (page ∷ []) item =
      if nat_lt (length page) most then (page ++ item ∷ []) ∷ []
      else page ∷ (item ∷ []) ∷ []
  with_item most (page ∷ next ∷ pages) item = page ∷ with_item most (next ∷ pages) item

  -- this page alone, or none where it is empty
  abbrev pub unless_empty : List T → List (List T)
  unless_empty [] = []
  unless_empty (item ∷ items) = (item ∷ items) ∷ []

  -- these pages without the item at a place of one of them, and without that page where it was the only one
  abbrev pub without_item : List (List T) → ℕ → ℕ → List (List T)
  without_item pages page place =
      take page pages ++ unless_empty (remove (slice_index_or pages page []) place) ++ drop (page + 1) pages
