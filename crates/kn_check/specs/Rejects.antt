-- Why rows are no proof of a level (keynoted's own): the first item that fails, in one order.
use Rattle.std.specs.Prelude.{ℕ, ◌-◌, ◌<◌, ◌≤◌, ◌≡◌, ◌≢◌, true, false, List, length, take, slice_index, slice_index_or}
use Rattle.kn_proof.specs.declared.row.Row.{Row as ProofRow}
use Rattle.kn_system.specs.Equations.{SystemEquations, row_at}
use Rattle.kn_system.specs.Least.{worth, at_first}
use Rattle.kn_system.specs.Proofs.{levels_after, AreSteps, IsClosed}
use Rattle.kn_check.specs.declared.reject.Reject.{Reject}
use Rattle.kn_check.specs.declared.reject.Reject.TheVariants.{Range, Requester, Again, Zero, Foreign, Unsupported}
use Rattle.kn_check.specs.declared.reject.Reject.TheVariants.{Unclosed, Claim}

-- the principal, the row of the system and the level that a row of a proof names are there
pub record IsInRange (s : SystemEquations) (row : ProofRow) : Type 0 where
  pub principal : row.principal < length s.requesters
  pub named : row.by < length s.rows
  pub level : row.value < s.levels

-- a row in range whose principal is no requester
pub record IsOther (s : SystemEquations) (row : ProofRow) : Type 0 where
  pub range : IsInRange s row
  pub other : slice_index_or s.requesters row.principal true ≡ false

-- a row in range whose principal is no requester and has no level yet
pub record IsFresh (s : SystemEquations) (levels : List ℕ) (row : ProofRow) : Type 0 where
  pub other : IsOther s row
  pub fresh : slice_index levels row.principal ≡ 0

-- a row in range that gives a level above the lowest to a principal who is no requester and has none yet
pub record IsRaising (s : SystemEquations) (levels : List ℕ) (row : ProofRow) : Type 0 where
  pub fresh : IsFresh s levels row
  pub positive : 0 < row.value

-- a raising row that stands on a row of the system whose authorizer is its principal
pub record IsOwn (s : SystemEquations) (levels : List ℕ) (row : ProofRow) : Type 0 where
  pub raising : IsRaising s levels row
  pub own : (row_at s.rows row.by).authorizer ≡ row.principal

-- what row i of the system is worth where the levels are these
abbrev pub worth_at : SystemEquations → List ℕ → ℕ → ℕ
worth_at s levels i = worth (s.levels - 1) levels (row_at s.rows i)

-- why row k of a proof may not stand where the levels are these: the first test that it fails
abbrev pub IsRowReject : SystemEquations → List ℕ → ℕ → ProofRow → Reject → Type 0
IsRowReject s levels k row (Range j) = (j ≡ k) × ¬ IsInRange s row
IsRowReject s levels k row (Requester j) = (j ≡ k) × IsInRange s row
    × (slice_index_or s.requesters row.principal true ≡ true)
IsRowReject s levels k row (Again j) = (j ≡ k) × IsOther s row × (0 < slice_index levels row.principal)
IsRowReject s levels k row (Zero j) = (j ≡ k) × IsFresh s levels row × (row.value ≡ 0)
IsRowReject s levels k row (Foreign j) = (j ≡ k) × IsRaising s levels row
    × ((row_at s.rows row.by).authorizer ≢ row.principal)
IsRowReject s levels k row (Unsupported j found) = (j ≡ k) × IsOwn s levels row × (found ≡ worth_at s levels row.by)
    × (found < row.value)
IsRowReject s levels k row (Unclosed i found) = ⊥
IsRowReject s levels k row (Claim found) = ⊥

-- a row of a proof by its number
abbrev pub proof_row_at : List ProofRow → ℕ → ProofRow
proof_row_at rows k = slice_index_or rows k (record { principal = 0; value = 0; by = 0 })

-- row k is the first that may not stand, for this reason
pub record IsRowFault (s : SystemEquations) (rows : List ProofRow) (reject : Reject) (k : ℕ) : Type 0 where
  pub within : k < length rows
  pub before : AreSteps s (at_first s) (take k rows)
  pub reason : IsRowReject s (levels_after (at_first s) (take k rows)) k (proof_row_at rows k) reject

-- row i of the system is the first that is worth more than its authorizer has
pub record IsUnclosed (s : SystemEquations) (levels : List ℕ) (i found : ℕ) : Type 0 where
  pub within : i < length s.rows
  pub before : (j : ℕ) → j < i → worth_at s levels j ≤ slice_index levels (row_at s.rows j).authorizer
  pub worth : found ≡ worth_at s levels i
  pub more : slice_index levels (row_at s.rows i).authorizer < found

-- the policy has another level than the claimed one
pub record IsOtherClaim (s : SystemEquations) (levels : List ℕ) (claimed found : ℕ) : Type 0 where
  pub closed : IsClosed s levels
  pub level : found ≡ slice_index levels 0
  pub differs : found ≢ claimed

-- the first item that fails: the rows of the proof in order, then the rows of the system in order, then the claim
abbrev pub IsReject : SystemEquations → List ProofRow → ℕ → Reject → Type 0
IsReject s rows claimed (Unclosed i found) = AreSteps s (at_first s) rows
    × IsUnclosed s (levels_after (at_first s) rows) i found
IsReject s rows claimed (Claim found) = AreSteps s (at_first s) rows
    × IsOtherClaim s (levels_after (at_first s) rows) claimed found
IsReject s rows claimed reject = (k : ℕ) × IsRowFault s rows reject k

-- what is said of a reason: its number, the row that it names, of the proof or of the system, or 0, and the level, or 0
abbrev pub reason_numbers : Reject → ℕ × ℕ × ℕ
reason_numbers (Range row) = (1, row, 0)
reason_numbers (Requester row) = (2, row, 0)
reason_numbers (Again row) = (3, row, 0)
reason_numbers (Zero row) = (4, row, 0)
reason_numbers (Foreign row) = (5, row, 0)
reason_numbers (Unsupported row found) = (6, row, found)
reason_numbers (Unclosed i found) = (7, i, found)
reason_numbers (Claim found) = (8, 0, found)

abbrev pub reason_number : Reject → ℕ
reason_number reject = (reason_numbers reject).0

abbrev pub reason_row : Reject → ℕ
reason_row reject = (reason_numbers reject).1

abbrev pub reason_found : Reject → ℕ
reason_found reject = (reason_numbers reject).2
