-- Proofs of a level over numbered principals (keynoted's own): rows that a checker can follow one by one.
use Rattle.std.specs.Prelude.{ℕ, ◌+◌, ◌-◌, ◌<◌, ◌≤◌, ◌≡◌, ◌==◌, if◌then◌else◌, min, true, false, List, [], ◌∷◌, length}
use Rattle.std.specs.Prelude.{slice_index, slice_index_or, slice_set}
use Rattle.kn_proof.specs.declared.row.Row.{Row as ProofRow}
use Rattle.kn_system.specs.Equations.{SystemEquations, row_at}
use Rattle.kn_system.specs.Least.{worth, at_first}

-- the levels after proof rows, each of which gives its principal its level
abbrev pub levels_after : List ℕ → List ProofRow → List ℕ
levels_after levels [] = levels
levels_after levels (row ∷ rows) = levels_after (slice_set levels row.principal row.value) rows

-- A proof row that may stand where the levels are these: its principal is no requester and has no level yet, its own
-- level is above the lowest, and a row of the system whose authorizer is the principal is worth as much.
pub record IsStep (s : SystemEquations) (levels : List ℕ) (row : ProofRow) : Type 0 where
  pub principal : row.principal < length s.requesters
  pub named : row.by < length s.rows
  pub level : row.value < s.levels
  pub other : slice_index_or s.requesters row.principal true ≡ false
  pub fresh : slice_index levels row.principal ≡ 0
  pub positive : 0 < row.value
  pub own : (row_at s.rows row.by).authorizer ≡ row.principal
  pub supported : row.value ≤ worth (s.levels - 1) levels (row_at s.rows row.by)

-- each row may stand where it stands
abbrev pub AreSteps : SystemEquations → List ℕ → List ProofRow → Type 0
AreSteps s levels [] = Unit {0}
AreSteps s levels (row ∷ rows) = IsStep s levels row × AreSteps s (slice_set levels row.principal row.value) rows

-- no row is worth more than its authorizer's level
abbrev pub IsClosed : SystemEquations → List ℕ → Type 0
IsClosed s levels =
    (i : ℕ) → i < length s.rows
    → worth (s.levels - 1) levels (row_at s.rows i) ≤ slice_index levels (row_at s.rows i).authorizer

-- the rows prove that the policy, principal 0, has this level
pub record IsProof (s : SystemEquations) (rows : List ProofRow) (claimed : ℕ) : Type 0 where
  pub steps : AreSteps s (at_first s) rows
  pub closed : IsClosed s (levels_after (at_first s) rows)
  pub claim : slice_index (levels_after (at_first s) rows) 0 ≡ claimed

-- how many rows give this principal a level
abbrev pub rows_of : ℕ → List ProofRow → ℕ
rows_of p [] = 0
rows_of p (row ∷ rows) = (if row.principal == p then 1 else 0) + rows_of p rows

-- one row for each principal above the lowest level that is no requester, and none for any other
abbrev pub HasOneRowEach : SystemEquations → List ℕ → List ProofRow → Type 0
HasOneRowEach s levels rows =
    (p : ℕ) → p < length s.requesters
    → rows_of p rows ≡ (if slice_index_or s.requesters p false then 0 else min 1 (slice_index levels p))
