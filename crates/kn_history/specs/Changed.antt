-- What changes make of the live credentials, one by one.
use Rattle.std.specs.Prelude.{ℕ, ◌==◌, not, List, [], ◌∷◌, ◌++◌, filter}
use Rattle.kn_history.specs.declared.update.Change.{Change}
use Rattle.kn_history.specs.declared.update.Change.TheVariants.{Add, Remove}
use Rattle.kn_history.specs.declared.update.Numbered.{Numbered}
use Rattle.kn_history.specs.History.{NumberedText}

-- an addition comes last, and a removal takes the credential of its id away
abbrev pub after_change : List NumberedText → Change → ℕ → List NumberedText
after_change credentials (Add text) id = credentials ++ record { id = id; text = text } ∷ []
after_change credentials Remove id = filter (λ c. not (c.id == id)) credentials

abbrev pub after_changes : List NumberedText → List Numbered → List NumberedText
after_changes credentials [] = credentials
after_changes credentials (c ∷ changes) = after_changes (after_change credentials c.change c.id) changes
