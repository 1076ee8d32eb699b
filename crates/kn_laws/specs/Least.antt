-- The least levels of a query by rounds (RFC 2704, section 5).
use Rattle.std.specs.Prelude.{ℕ, zero, suc, ◌*◌, List, [], ◌∷◌, length, if◌then◌else◌}
use Rattle.std.specs.List.{list_any}
use Rattle.std.specs.Str.{bytes_eq}
use Rattle.kn_meaning.specs.Formulas.{Levels}
use Rattle.kn_meaning.specs.Equations.{Equations, is_requester, round}
use Rattle.kn_meaning.specs.Occurring.{occurring}

-- these names, each once
abbrev pub each_once : List (List ℕ) → List (List ℕ)
each_once [] = []
each_once (name ∷ names) = if list_any (bytes_eq name) names then each_once names else name ∷ each_once names

-- the principals of a query
abbrev pub principals : Equations → List (List ℕ)
principals e = each_once (occurring e)

-- requesters have the top, and all others 0
abbrev pub at_first : Equations → Levels
at_first e name = if is_requester e name then e.top else 0

-- so many rounds
abbrev pub rounds : Equations → ℕ → Levels → Levels
rounds e zero at = at
rounds e (suc n) at = rounds e n (round e at)

-- as many rounds as there are principals times the top
abbrev pub least_levels : Equations → Levels
least_levels e = rounds e (length (principals e) * e.top) (at_first e)
