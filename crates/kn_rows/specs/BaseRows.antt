-- Rows of assertions without a query: what a base is for assertions (keynoted's own).
use Rattle.std.specs.Prelude.{ℕ, List, [], ◌∷◌}
use Rattle.kn_principal.specs.Principals.{policy}
use Rattle.kn_trees.specs.declared.assertion.Assertion.{Assertion}
use Rattle.kn_meaning.specs.Equations.{Part}
use Rattle.kn_system.specs.Rows.{SystemRow}
use Rattle.kn_system.specs.Equations.{SystemEquations}
use Rattle.kn_rows.specs.Numbering.{AreDistinct, ArePiecesOf, IsNumber, SpellLicensees, licensees_pieces}

-- the row has the assertion's authorizer and licensees; its ceiling is of no matter
pub record IsBaseRow (names : List (List ℕ)) (assertion : Assertion) (row : SystemRow) : Type 0 where
  pub authorizer : IsNumber names assertion.authorizer row.authorizer
  pub pieces : ArePiecesOf names (licensees_pieces assertion.licensees) row.formula
  pub licensees : (top : ℕ) → SpellLicensees top names assertion.licensees row.formula

-- one row for each assertion, in their order
abbrev pub AreBaseRows : List (List ℕ) → List Part → List SystemRow → Type 0
AreBaseRows names [] [] = Unit {0}
AreBaseRows names [] (row ∷ rows) = ⊥
AreBaseRows names (part ∷ parts) [] = ⊥
AreBaseRows names (part ∷ parts) (row ∷ rows) = IsBaseRow names part.assertion row × AreBaseRows names parts rows

-- one row for each assertion, over principals of which the policy has number 0 and none has two
pub record IsBaseOf (parts : List Part) (names : List (List ℕ)) (base : SystemEquations) : Type 0 where
  pub first : IsNumber names policy 0
  pub distinct : AreDistinct names
  pub rows : AreBaseRows names parts base.rows

-- these are the numbers of the principals, in their order
abbrev pub AreNumbersOf : List (List ℕ) → List (List ℕ) → List ℕ → Type 0
AreNumbersOf names [] [] = Unit {0}
AreNumbersOf names [] (p ∷ ps) = ⊥
AreNumbersOf names (r ∷ rs) [] = ⊥
AreNumbersOf names (r ∷ rs) (p ∷ ps) = IsNumber names r p × AreNumbersOf names rs ps
