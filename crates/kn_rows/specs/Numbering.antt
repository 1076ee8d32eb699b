-- What a system over numbers is for a query over named principals: the number of a principal is its place among the
-- names (keynoted's own).
use Rattle.std.specs.Prelude.{ℕ, ◌≡◌, ◌+◌, Bool, true, List, [], ◌∷◌, ◌++◌, length, map, flat_map, slice_get}
use Rattle.std.specs.Prelude.{slice_index, Option, Some, None, if◌then◌else◌}
use Rattle.std.specs.List.{list_any}
use Rattle.std.specs.Str.{bytes_eq}
use Rattle.kn_principal.specs.Principals.{policy}
use Rattle.kn_trees.specs.declared.formula.Formula.{Formula}
use Rattle.kn_trees.specs.declared.formula.Formula.TheOpen.{Formula-F}
use Rattle.kn_trees.specs.declared.formula.Formula.TheOpen.Formula-F.{Who, All, Any, Threshold}
use Rattle.kn_trees.specs.declared.formula.Formula.TheFolds.{fold-Formula}
use Rattle.kn_meaning.specs.Formulas.{Levels}
use Rattle.kn_meaning.specs.Equations.{Equations, Statement, licensees_level}
use Rattle.kn_system.specs.declared.rows.Piece.{Piece}
use Rattle.kn_system.specs.declared.rows.Piece.TheVariants as P
use Rattle.kn_system.specs.Rows.{SystemRow}
use Rattle.kn_system.specs.Equations.{SystemEquations}
use Rattle.kn_system.specs.Form.{form_level}

-- the item has this number: it stands at this place, counted from 0
abbrev pub IsNumber : {A : Type 0} → List A → A → ℕ → Type 0
IsNumber items item p = slice_get items p ≡ Some item

-- the item has no number
abbrev pub IsAbsent : {A : Type 0} → List A → A → Type 0
IsAbsent items item = (p : ℕ) → IsNumber items item p → ⊥

-- no item has two numbers
abbrev pub AreDistinct : {A : Type 0} → List A → Type 0
AreDistinct items = (p q : ℕ) (item : _) → IsNumber items item p → IsNumber items item q → p ≡ q

-- the names with this one behind them, unless it has a number already
abbrev pub with_name : List (List ℕ) → List ℕ → List (List ℕ)
with_name names name = if list_any (bytes_eq name) names then names else names ++ name ∷ []

-- the names with those of these behind them, in their order, that have no number yet
abbrev pub with_names : List (List ℕ) → List (List ℕ) → List (List ℕ)
with_names names [] = names
with_names names (name ∷ others) = with_names (with_name names name) others

-- each principal has by its number the level that it has by its name
abbrev pub HaveLevels : List (List ℕ) → Levels → List ℕ → Type 0
HaveLevels names at levels = (p : ℕ) (name : List ℕ) → IsNumber names name p → slice_index levels p ≡ at name

-- pieces have the level of a Licensees field wherever the principals have the same levels
abbrev pub SpellLicensees : ℕ → List (List ℕ) → Option Formula → List Piece → Type 0
SpellLicensees top names licensees pieces =
    (at : Levels) (levels : List ℕ) → HaveLevels names at levels
    → form_level top levels pieces ≡ licensees_level top at licensees

-- a piece of a formula over named principals: a principal, or a gate, which stands before its parts
pub data NamedPiece : Type 0 where
  Leaf : List ℕ → NamedPiece
  Gate : ℕ → ℕ → NamedPiece

-- `&&` needs all of its parts, and `||` one
abbrev pub pieces_step : Formula-F (List NamedPiece) → List NamedPiece
pieces_step (Who name) = Leaf name ∷ []
pieces_step (All parts) = Gate (length parts) (length parts) ∷ flat_map (λ pieces. pieces) parts
pieces_step (Any parts) = Gate 1 (length parts) ∷ flat_map (λ pieces. pieces) parts
pieces_step (Threshold need parts) = Gate need (length parts) ∷ flat_map (λ pieces. pieces) parts

-- the pieces of a formula
unfoldable pub formula_pieces : Formula → List NamedPiece
formula_pieces = fold-Formula (List NamedPiece) pieces_step

-- the pieces of a Licensees field; a missing one is a gate of need 1 over no parts
abbrev pub licensees_pieces : Option Formula → List NamedPiece
licensees_pieces None = Gate 1 0 ∷ []
licensees_pieces (Some formula) = formula_pieces formula

-- the piece is the same, with the principal's number in place of its name
abbrev pub IsPieceOf : List (List ℕ) → NamedPiece → Piece → Type 0
IsPieceOf names (Leaf name) (P.Who p) = IsNumber names name p
IsPieceOf names (Leaf name) (P.Gate need count) = ⊥
IsPieceOf names (Gate need count) (P.Who p) = ⊥
IsPieceOf names (Gate need count) (P.Gate k n) = (k ≡ need) × (n ≡ count)

-- each piece is that at its place
abbrev pub ArePiecesOf : List (List ℕ) → List NamedPiece → List Piece → Type 0
ArePiecesOf names [] [] = Unit {0}
ArePiecesOf names [] (piece ∷ pieces) = ⊥
ArePiecesOf names (n ∷ named) [] = ⊥
ArePiecesOf names (n ∷ named) (piece ∷ pieces) = IsPieceOf names n piece × ArePiecesOf names named pieces

-- the row states what the statement does: by the same pieces, which have the level of its Licensees field
pub record IsRowOf (top : ℕ) (names : List (List ℕ)) (statement : Statement) (row : SystemRow) : Type 0 where
  pub authorizer : IsNumber names statement.authorizer row.authorizer
  pub ceiling : row.ceiling ≡ statement.ceiling
  pub pieces : ArePiecesOf names (licensees_pieces statement.licensees) row.formula
  pub licensees : SpellLicensees top names statement.licensees row.formula

-- one row for each statement, in their order
abbrev pub AreRowsOf : ℕ → List (List ℕ) → List Statement → List SystemRow → Type 0
AreRowsOf top names [] [] = Unit {0}
AreRowsOf top names [] (row ∷ rows) = ⊥
AreRowsOf top names (s ∷ statements) [] = ⊥
AreRowsOf top names (s ∷ statements) (row ∷ rows) = IsRowOf top names s row × AreRowsOf top names statements rows

-- The policy has number 0, no principal has two numbers, and the flags tell which principals are requesters.
pub record AreNumbered (requesters names : List (List ℕ)) (flags : List Bool) : Type 0 where
  pub first : IsNumber names policy 0
  pub distinct : AreDistinct names
  pub flagged : flags ≡ map (λ name. list_any (bytes_eq name) requesters) names

-- each of these principals has a number
abbrev pub HaveNumbers : List (List ℕ) → List (List ℕ) → Type 0
HaveNumbers principals names = (name : List ℕ) → list_any (bytes_eq name) principals ≡ true → (p : ℕ)
    × IsNumber names name p

-- each name that has a number is one of these principals
abbrev pub AreAmong : List (List ℕ) → List (List ℕ) → Type 0
AreAmong principals names = (p : ℕ) (name : List ℕ) → IsNumber names name p → list_any (bytes_eq name) principals ≡ true

-- these principals have numbers, and no others
pub record AreNamesOf (principals names : List (List ℕ)) : Type 0 where
  pub all : HaveNumbers principals names
  pub only : AreAmong principals names

-- The system states what the query does: the requesters have numbers and flags, and there is a row for each statement.
-- Which other principals have numbers is said by `IsBuilt`.
pub record IsSystemOf (e : Equations) (names : List (List ℕ)) (s : SystemEquations) : Type 0 where
  pub numbered : AreNumbered e.requesters names s.requesters
  pub all : HaveNumbers e.requesters names
  pub top : s.levels ≡ e.top + 1
  pub rows : AreRowsOf e.top names e.statements s.rows
