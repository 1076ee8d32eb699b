-- Short histories, by their changes.
use Rattle.std.specs.Prelude.{ℕ, List, [], ◌∷◌, ◌++◌, codes}
use Rattle.kn_history.specs.declared.update.Change.TheVariants.{Add, Remove}
use Rattle.kn_history.specs.declared.update.Numbered.{Numbered}
use Rattle.kn_history.specs.declared.update.Update.{Update}
use Rattle.kn_history.specs.History.{NumberedText}

abbrev pub add : List ℕ → ℕ → Numbered
add text id = record { change = Add text; id = id }

abbrev pub remove : ℕ → Numbered
remove id = record { change = Remove; id = id }

abbrev pub numbered_text : ℕ → List ℕ → NumberedText
numbered_text id text = record { id = id; text = text }

abbrev pub update : ℕ → List Numbered → Update
update caller changes = record { caller = caller; changes = changes }

-- two texts are added
abbrev pub two_added : List Numbered
two_added = add (codes "ab") 1 ∷ add (codes "c") 2 ∷ []

-- and the first of them is removed
abbrev pub one_left : List Numbered
one_left = two_added ++ remove 1 ∷ []
