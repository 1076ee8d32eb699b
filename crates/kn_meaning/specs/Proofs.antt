-- Proofs of the policy's level over named principals (keynoted's own): rows that anybody can follow one by one.
use Rattle.std.specs.Prelude.{ℕ, ◌≡◌, ◌≤◌, false, List, [], ◌∷◌, ◌++◌, All, Any, if◌then◌else◌}
use Rattle.std.specs.List.{list_any}
use Rattle.std.specs.Str.{bytes_eq}
use Rattle.kn_principal.specs.Principals.{policy}
use Rattle.kn_proof.specs.declared.named.NamedRow.{NamedRow}
use Rattle.kn_meaning.specs.Formulas.{Levels}
use Rattle.kn_meaning.specs.Equations.{Equations, Statement, is_requester, worth}

-- the level that rows state of a principal, and 0 where none does
abbrev pub row_level : List NamedRow → Levels
row_level [] name = 0
row_level (row ∷ rows) name = if bytes_eq row.principal name then row.value else row_level rows name

-- requesters have the top, the principals of the rows what these state, and all others 0
abbrev pub levels_by : Equations → List NamedRow → Levels
levels_by e rows name = if is_requester e name then e.top else row_level rows name

-- the assertion has the row's id and its principal as authorizer, and under these levels it is worth the row's level at
-- least
pub record Supports (e : Equations) (at : Levels) (row : NamedRow) (s : Statement) : Type 0 where
  pub named : s.id ≡ row.id
  pub own : s.authorizer ≡ row.principal
  pub enough : row.value ≤ worth e.top at s

-- A row may follow these: its principal is no requester and stands in none of them, its level is above the lowest, and
-- an assertion supports it under the levels before it.
pub record IsRow (e : Equations) (before : List NamedRow) (row : NamedRow) : Type 0 where
  pub other : is_requester e row.principal ≡ false
  pub fresh : list_any (λ r. bytes_eq r.principal row.principal) before ≡ false
  pub above_lowest : 1 ≤ row.value
  pub within : row.value ≤ e.top
  pub supported : Any (Supports e (levels_by e before) row) e.statements

-- each of these rows may follow those before it
abbrev pub AreRows : Equations → List NamedRow → List NamedRow → Type 0
AreRows e before [] = Unit {0}
AreRows e before (row ∷ rows) = IsRow e before row × AreRows e (before ++ row ∷ []) rows

-- under these levels no assertion is worth more than its authorizer has
abbrev pub IsClosed : Equations → Levels → Type 0
IsClosed e at = All (λ s. worth e.top at s ≤ at s.authorizer) e.statements

-- The rows prove that the policy has this level: each may follow those before it, under all of them no assertion is
-- worth more than its authorizer has, and the policy has this level.
pub record IsProof (e : Equations) (rows : List NamedRow) (level : ℕ) : Type 0 where
  pub in_order : AreRows e [] rows
  pub closed : IsClosed e (levels_by e rows)
  pub claim : levels_by e rows policy ≡ level
