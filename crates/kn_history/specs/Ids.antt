-- Texts in order of their ids.
use Rattle.std.specs.Prelude.{ℕ, ◌<◌, List, [], ◌∷◌}
use Rattle.kn_history.specs.History.{NumberedText}

-- the ids ascend, and all are above this
abbrev pub IdsAscend : ℕ → List NumberedText → Type 0
IdsAscend low [] = Unit {0}
IdsAscend low (c ∷ credentials) = (low < c.id) × IdsAscend c.id credentials
