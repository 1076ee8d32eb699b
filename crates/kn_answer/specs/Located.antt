-- Rows of a proof by names, and the same rows by numbers (keynoted's own).
use Rattle.std.specs.Prelude.{ℕ, ◌≡◌, ◌-◌, ◌^◌, ◌<◌, ◌⊎◌, List, [], ◌∷◌, All, length}
use Rattle.kn_proof.specs.declared.named.NamedRow.{NamedRow}
use Rattle.kn_proof.specs.declared.row.Row.{Row}
use Rattle.kn_system.specs.Equations.{SystemEquations}
use Rattle.kn_rows.specs.Numbering.{IsNumber, IsAbsent}
use Rattle.kn_answer.specs.Built.{Interned}

-- the item has this number, or it has none and this is the greatest u32
abbrev pub IsFound : {A : Type 0} → List A → A → ℕ → Type 0
IsFound items item p = IsNumber items item p ⊎ (IsAbsent items item × (p ≡ 2 ^ 32 - 1))

-- the row by numbers is the one by names: the same level of the same principal, by the row of the same id
pub record IsLocated (built : Interned) (named : NamedRow) (row : Row) : Type 0 where
  pub principal : IsFound built.names named.principal row.principal
  pub level : row.value ≡ named.value
  pub by : IsFound built.ids named.id row.by

-- each row by numbers is the one by names, in their order
abbrev pub AreLocated : Interned → List NamedRow → List Row → Type 0
AreLocated built [] [] = Unit {0}
AreLocated built [] (row ∷ rows) = ⊥
AreLocated built (named ∷ others) [] = ⊥
AreLocated built (named ∷ others) (row ∷ rows) = IsLocated built named row × AreLocated built others rows

-- the row's numbers are those of a principal and a row of the system
pub record IsOfSystem (s : SystemEquations) (row : Row) : Type 0 where
  pub principal : row.principal < length s.requesters
  pub by : row.by < length s.rows

abbrev pub AreOfSystem : SystemEquations → List Row → Type 0
AreOfSystem s rows = All (IsOfSystem s) rows
