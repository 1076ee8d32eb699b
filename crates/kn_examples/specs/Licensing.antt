-- A system of two levels, whose last row was pushed later (keynoted's own).
use Rattle.std.specs.Prelude.{ℕ, Bool, true, false, List, [], ◌∷◌}
use Rattle.kn_system.specs.declared.rows.Piece.TheVariants.{Who}
use Rattle.kn_system.specs.Equations.{SystemEquations}
use Rattle.kn_system.specs.Rows.{SystemRow}
use Rattle.kn_watch.specs.declared.changed.Changed.{Changed}

-- a row by this principal, with the highest ceiling, that licenses that one
abbrev pub licence : ℕ → ℕ → SystemRow
licence authorizer principal = record { authorizer = authorizer; ceiling = 1; formula = Who principal ∷ [] }

-- principal 3 requests; 0 licenses 1, and 1 and 2 license 3
abbrev pub licensing : SystemEquations
licensing = record {
  levels = 2;
  requesters = false ∷ false ∷ false ∷ true ∷ [];
  rows = licence 0 1 ∷ licence 1 3 ∷ licence 2 3 ∷ [];
}

-- the third row is new
abbrev pub third_row : List Changed
third_row = (record { row = 2; before = 0 }) ∷ []

-- its authorizer alone
abbrev pub third_authorizer : List Bool
third_authorizer = false ∷ false ∷ true ∷ false ∷ []
