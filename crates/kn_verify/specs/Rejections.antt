-- Why the rows of a reply are no proof of its value (keynoted's own): the first item that fails, in one order.
use Rattle.std.specs.Prelude.{ℕ, ◌<◌, ◌≤◌, ◌≡◌, ◌≢◌, true, false, List, [], All, Any, map, take, slice_get, Some}
use Rattle.std.specs.List.{list_any}
use Rattle.std.specs.Str.{bytes_eq}
use Rattle.kn_principal.specs.Principals.{policy}
use Rattle.kn_proof.specs.declared.named.NamedRow.{NamedRow}
use Rattle.kn_check.specs.declared.reject.Reject.{Reject}
use Rattle.kn_check.specs.declared.reject.Reject.TheVariants.{Range, Requester, Again, Zero, Foreign, Unsupported}
use Rattle.kn_check.specs.declared.reject.Reject.TheVariants.{Unclosed, Claim}
use Rattle.kn_meaning.specs.Formulas.{Levels}
use Rattle.kn_meaning.specs.Equations.{Equations, Statement, is_requester, worth}
use Rattle.kn_meaning.specs.Occurring.{occurring}
use Rattle.kn_meaning.specs.Proofs.{levels_by, AreRows, IsClosed, IsProof}
use Rattle.kn_rows.specs.Numbering.{AreDistinct}

-- the row's principal and assertion occur in the query, and its level is one of the query's
pub record IsNamedInRange (e : Equations) (row : NamedRow) : Type 0 where
  pub principal : list_any (bytes_eq row.principal) (occurring e) ≡ true
  pub assertion : Any (λ s. s.id ≡ row.id) e.statements
  pub level : row.value ≤ e.top

-- a row in range whose principal is no requester
pub record NamesOther (e : Equations) (row : NamedRow) : Type 0 where
  pub range : IsNamedInRange e row
  pub other : is_requester e row.principal ≡ false

-- a row in range whose principal is no requester and stands in none of these
pub record NamesFresh (e : Equations) (before : List NamedRow) (row : NamedRow) : Type 0 where
  pub other : NamesOther e row
  pub fresh : list_any (λ r. bytes_eq r.principal row.principal) before ≡ false

-- such a row, with a level above the lowest
pub record NamesRaised (e : Equations) (before : List NamedRow) (row : NamedRow) : Type 0 where
  pub fresh : NamesFresh e before row
  pub above_lowest : 1 ≤ row.value

-- the row's assertion, whose authorizer is the row's principal, and which is worth this
pub record IsWorth (e : Equations) (at : Levels) (row : NamedRow) (found : ℕ) (s : Statement) : Type 0 where
  pub named : s.id ≡ row.id
  pub own : s.authorizer ≡ row.principal
  pub worth_found : found ≡ worth e.top at s

-- why a row, the k-th counted from 0, may not follow these: the first test that it fails
abbrev pub IsNamedRowReject : Equations → List NamedRow → ℕ → NamedRow → Reject → Type 0
IsNamedRowReject e before k row (Range j) = (j ≡ k) × ¬ IsNamedInRange e row
IsNamedRowReject e before k row (Requester j) = (j ≡ k) × IsNamedInRange e row × (is_requester e row.principal ≡ true)
IsNamedRowReject e before k row (Again j) = (j ≡ k) × NamesOther e row
    × (list_any (λ r. bytes_eq r.principal row.principal) before ≡ true)
IsNamedRowReject e before k row (Zero j) = (j ≡ k) × NamesFresh e before row × (row.value ≡ 0)
IsNamedRowReject e before k row (Foreign j) = (j ≡ k) × NamesRaised e before row
    × Any (λ s. (s.id ≡ row.id) × (s.authorizer ≢ row.principal)) e.statements
IsNamedRowReject e before k row (Unsupported j found) = (j ≡ k) × NamesRaised e before row
    × Any (IsWorth e (levels_by e before) row found) e.statements × (found < row.value)
IsNamedRowReject e before k row reject = ⊥

-- a row is the first that may not follow those before it, for this reason
pub record IsNamedRowFault (e : Equations) (rows : List NamedRow) (reject : Reject) : Type 0 where
  pub k : ℕ
  pub row : NamedRow
  pub here : slice_get rows k ≡ Some row
  pub before : AreRows e [] (take k rows)
  pub reason : IsNamedRowReject e (take k rows) k row reject

-- the i-th assertion of the query, counted from 0, is the first that is worth more than its authorizer has
pub record IsNamedUnclosed (e : Equations) (at : Levels) (i found : ℕ) : Type 0 where
  pub statement : Statement
  pub here : slice_get e.statements i ≡ Some statement
  pub before : All (λ s. worth e.top at s ≤ at s.authorizer) (take i e.statements)
  pub worth_found : found ≡ worth e.top at statement
  pub more : at statement.authorizer < found

-- the policy has another level than the claimed one
pub record IsNamedOtherClaim (e : Equations) (at : Levels) (claimed found : ℕ) : Type 0 where
  pub closed : IsClosed e at
  pub level : found ≡ at policy
  pub differs : found ≢ claimed

-- the first item that fails: the rows in order, then the assertions of the query in order, then the claim
abbrev pub IsRejected : Equations → List NamedRow → ℕ → Reject → Type 0
IsRejected e rows claimed (Unclosed i found) = AreRows e [] rows × IsNamedUnclosed e (levels_by e rows) i found
IsRejected e rows claimed (Claim found) = AreRows e [] rows × IsNamedOtherClaim e (levels_by e rows) claimed found
IsRejected e rows claimed reject = IsNamedRowFault e rows reject

-- where the ids of assertions differ, rows that are refused have one reason
abbrev pub OneReason : Type 0
OneReason =
    (e : Equations) → AreDistinct (map (λ s. s.id) e.statements)
    → (rows : List NamedRow) (level : ℕ) (reject other : Reject) → IsRejected e rows level reject
    → IsRejected e rows level other → reject ≡ other

-- and are no proof
abbrev pub NotBoth : Type 0
NotBoth =
    (e : Equations) → AreDistinct (map (λ s. s.id) e.statements)
    → (rows : List NamedRow) (level : ℕ) (reject : Reject) → IsProof e rows level → IsRejected e rows level reject → ⊥
