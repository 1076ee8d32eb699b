-- Rows that are a proof are refused for no reason.
use Rattle.std.proofs.Common.{◌≡◌, ◌<◌, ℕ, zero, suc, true, false, List, [], ◌∷◌, length, take, slice_set, sym, ◌∙◌}
use Rattle.std.proofs.Common.{arith}
use Rattle.kn_proof.specs.declared.row.Row.{Row as ProofRow}
use Rattle.kn_system.specs.Equations.{SystemEquations}
use Rattle.kn_system.specs.Least.{at_first}
use Rattle.kn_system.specs.Proofs.{levels_after, IsStep, AreSteps, IsProof}
use Rattle.kn_check.specs.declared.reject.Reject.{Reject}
use Rattle.kn_check.specs.declared.reject.Reject.TheVariants.{Range, Requester, Again, Zero, Foreign, Unsupported}
use Rattle.kn_check.specs.declared.reject.Reject.TheVariants.{Unclosed, Claim}
use Rattle.kn_check.specs.Rejects.{IsInRange, IsRowReject, IsRowFault, IsReject, proof_row_at}

-- each row of steps may stand where it stands
step-at : (s : SystemEquations) (levels : List ℕ) (rows : List ProofRow) (k : ℕ) → k < length rows
    → AreSteps s levels rows → IsStep s (levels_after levels (take k rows)) (proof_row_at rows k)
step-at s levels [] k l h = absurd (omega arith)
step-at s levels (row ∷ rows) zero l h = h.0
step-at s levels (row ∷ rows) (suc k) l h =
    step-at s (slice_set levels row.principal row.value) rows k (omega arith) h.1

range-of : (s : SystemEquations) (levels : List ℕ) (row : ProofRow) → IsStep s levels row → IsInRange s row
range-of s levels row h = record { principal = h.principal; named = h.named; level = h.level }

step-refused : (s : SystemEquations) (levels : List ℕ) (k : ℕ) (row : ProofRow) (reject : Reject) → IsStep s levels row
    → IsRowReject s levels k row reject → ⊥
step-refused s levels k row (Range j) h r = r.1 (range-of s levels row h)
step-refused s levels k row (Requester j) h r = let differs : true ≡ false = sym r.2 ∙ h.other in cc
step-refused s levels k row (Again j) h r = omega (arith, h.fresh, r.2)
step-refused s levels k row (Zero j) h r = omega (arith, h.positive, r.2)
step-refused s levels k row (Foreign j) h r = r.2 h.own
step-refused s levels k row (Unsupported j found) h r = omega (arith, h.supported, r.2, r.3)
step-refused s levels k row (Unclosed i found) h r = r
step-refused s levels k row (Claim found) h r = r

row-refused : (s : SystemEquations) (rows : List ProofRow) (reject : Reject) (k : ℕ) → AreSteps s (at_first s) rows
    → IsRowFault s rows reject k → ⊥
row-refused s rows reject k h r =
    step-refused s (levels_after (at_first s) (take k rows)) k (proof_row_at rows k) reject
    (step-at s (at_first s) rows k r.within h) r.reason

-- a fault of a row is the first item that fails
pub reject-row : (s : SystemEquations) (rows : List ProofRow) (claimed : ℕ) (reject : Reject) (k : ℕ)
    → IsRowFault s rows reject k → IsReject s rows claimed reject
reject-row s rows claimed (Range j) k r = (k, r)
reject-row s rows claimed (Requester j) k r = (k, r)
reject-row s rows claimed (Again j) k r = (k, r)
reject-row s rows claimed (Zero j) k r = (k, r)
reject-row s rows claimed (Foreign j) k r = (k, r)
reject-row s rows claimed (Unsupported j found) k r = (k, r)
reject-row s rows claimed (Unclosed i found) k r = absurd r.reason
reject-row s rows claimed (Claim found) k r = absurd r.reason

-- a proof has no item that fails
pub proof-refused : (s : SystemEquations) (rows : List ProofRow) (claimed : ℕ) (reject : Reject)
    → IsProof s rows claimed → IsReject s rows claimed reject → ⊥
proof-refused s rows claimed (Range j) h r = row-refused s rows (Range j) r.0 h.steps r.1
proof-refused s rows claimed (Requester j) h r = row-refused s rows (Requester j) r.0 h.steps r.1
proof-refused s rows claimed (Again j) h r = row-refused s rows (Again j) r.0 h.steps r.1
proof-refused s rows claimed (Zero j) h r = row-refused s rows (Zero j) r.0 h.steps r.1
proof-refused s rows claimed (Foreign j) h r = row-refused s rows (Foreign j) r.0 h.steps r.1
proof-refused s rows claimed (Unsupported j found) h r = row-refused s rows (Unsupported j found) r.0 h.steps r.1
proof-refused s rows claimed (Unclosed i found) h r = let closed = h.closed i r.1.within in
    omega (arith, r.1.worth, r.1.more)
proof-refused s rows claimed (Claim found) h r = r.1.differs (r.1.level ∙ h.claim)
