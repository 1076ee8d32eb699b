-- A proof determines the levels.
use Rattle.std.proofs.Common.{◌≡◌, ℕ, suc, zero, ◌-◌, ◌<◌, ◌≤◌, ◌≢◌, Bool, true, false, cond, List, [], ◌∷◌}
use Rattle.std.proofs.Common.{slice_index, slice_index_or, slice_set, length, inl, inr, refl, sym, ap, ◌∙◌, subst}
use Rattle.std.proofs.Common.{arith}
use Rattle.std.proofs.lemmas.Bool.{cases_lt, cases_eq}
use Rattle.std.proofs.lemmas.Bool.Decides.{nat_tests}
use Rattle.std.proofs.lemmas.List.{get_or_past, get_or-set_same, get_or-set_other, length-set, length-map}
use Rattle.kn_proof.specs.declared.row.Row.{Row as ProofRow}
use Rattle.kn_system.specs.Rows.{SystemRow}
use Rattle.kn_system.specs.Equations.{SystemEquations, row_at}
use Rattle.kn_system.specs.Least.{worth, highest_worth, round_at, round, at_first, least_levels}
use Rattle.kn_system.specs.Lawful.{IsLeast, IsByPrincipal, IsDetermined}
use Rattle.kn_system.specs.Order.{Below, Carries}
use Rattle.kn_system.specs.Proofs.{levels_after, IsStep, AreSteps, IsClosed, IsProof}
use Rattle.kn_system.proofs.Rounds.{worth-carried, at_first-below, by_principal, length-round}
use Rattle.kn_system.proofs.Settles.{least_levels-is_least, Below-both}

-- what holds of the new level of a principal and of the levels of all others holds after it is given
pub set_at : (levels : List ℕ) (p v : ℕ) (P : ℕ → ℕ → Type 0) → p < length levels → P p v
    → ((i : ℕ) → i ≢ p → P i (slice_index levels i)) → (i : ℕ) → P i (slice_index (slice_set levels p v) i)
set_at levels p v P l here other i =
    elim (cases_eq i p) [
      | inl same ↦ subst (λ (j : ℕ). P j (slice_index (slice_set levels p v) j)) (sym same) (rw get_or-set_same here)
      | inr differs ↦ rw get_or-set_other (other i differs)
    ]

-- who has no level yet may get one: no level falls
pub set-raises : (levels : List ℕ) (p v : ℕ) → p < length levels → slice_index levels p ≡ 0
    → Below levels (slice_set levels p v)
set-raises levels p v l none =
    set_at levels p v (λ i level. slice_index levels i ≤ level) l (omega arith) (λ i differs. omega arith)

-- steps give no principal more or fewer places
pub size-after : (levels : List ℕ) (rows : List ProofRow) → length (levels_after levels rows) ≡ length levels
size-after levels [] = refl
size-after levels (row ∷ rows) = size-after (slice_set levels row.principal row.value) rows
    ∙ length-set levels row.principal row.value

-- no level falls by steps
pub steps-raise : (s : SystemEquations) (levels : List ℕ) (rows : List ProofRow) → length levels ≡ length s.requesters
    → AreSteps s levels rows → Below levels (levels_after levels rows)
steps-raise s levels [] size h = λ i. omega arith
steps-raise s levels (row ∷ rows) size h =
    let first : Below levels (slice_set levels row.principal row.value) =
    set-raises levels row.principal row.value (omega (arith, h.0.principal)) h.0.fresh in
    let rest : Below (slice_set levels row.principal row.value) (levels_after levels (row ∷ rows)) =
    steps-raise s (slice_set levels row.principal row.value) rows (length-set levels row.principal row.value
    ∙ size) h.1 in
    λ i. omega (arith, first i, rest i)

-- an authorizer's highest worth is at most what none of its rows passes
highest_worth-most : (top : ℕ) (xs : List ℕ) (p b : ℕ) (rows : List SystemRow)
    → ((i : ℕ) → i < length rows → (row_at rows i).authorizer ≡ p → worth top xs (row_at rows i) ≤ b)
    → highest_worth top xs p rows ≤ b
highest_worth-most top xs p b [] h = omega arith
highest_worth-most top xs p b (row ∷ rows) h =
    let rest : highest_worth top xs p rows ≤ b =
    highest_worth-most top xs p b rows (λ i l e. h (suc i) (omega arith) e) in
    let first : row.authorizer ≡ p → worth top xs row ≤ b = h 0 (omega arith) in
    elim (cases_eq row.authorizer p) [
      | inl same ↦ let here : worth top xs row ≤ b = first same in grind (arith, nat_tests)
      | inr differs ↦ grind (arith, nat_tests)
    ]

-- and at least what each of them is worth
worth-highest : (top : ℕ) (xs : List ℕ) (rows : List SystemRow) (i : ℕ) → i < length rows
    → worth top xs (row_at rows i) ≤ highest_worth top xs (row_at rows i).authorizer rows
worth-highest top xs [] i l = absurd (omega arith)
worth-highest top xs (row ∷ rows) zero l = grind (arith, nat_tests)
worth-highest top xs (row ∷ rows) (suc i) l = let rest = worth-highest top xs rows i (omega arith) in
    grind (arith, nat_tests)

closed-at : (s : SystemEquations) (levels : List ℕ) (i : ℕ) (requester : Bool)
    → slice_index (at_first s) i ≡ cond requester (s.levels - 1) 0 → Below (at_first s) levels → IsClosed s levels
    → round_at (s.levels - 1) s.rows levels i requester ≤ slice_index levels i
closed-at s levels i true first started closed = let from : slice_index (at_first s) i ≤ slice_index levels i =
    started i in omega arith
closed-at s levels i false first started closed =
    highest_worth-most (s.levels - 1) levels i (slice_index levels i) s.rows
    (λ j l own. let le = closed j l in
    let same : slice_index levels (row_at s.rows j).authorizer ≡ slice_index levels i =
    ap (slice_index levels) own in omega arith)

-- closed levels in which requesters have the top are raised by no round
pub closed-stays : (s : SystemEquations) (levels : List ℕ) → Below (at_first s) levels → IsClosed s levels
    → Below (round s levels) levels
closed-stays s levels started closed = λ i.
    elim (cases_lt i (length s.requesters)) [
      | inl within ↦
          let is : IsByPrincipal s i (slice_index_or s.requesters i false) = by_principal s i false within in
          let le = closed-at s levels i (slice_index_or s.requesters i false) is.first started closed in
          let after = is.after levels in
          omega arith
      | inr past ↦
          let none : slice_index (round s levels) i ≡ 0 =
          get_or_past (round s levels) i 0 (omega (arith, length-round s levels)) in
          omega arith
    ]

-- a level that a row supports, the least levels give its authorizer
step-least : (s : SystemEquations) (levels : List ℕ) (row : ProofRow) → IsStep s levels row
    → Below levels (least_levels s) → row.value ≤ slice_index (least_levels s) row.principal
step-least s levels row h below =
    let top : ℕ = s.levels - 1 in
    let least : List ℕ = least_levels s in
    let carries : Carries row.value levels least = λ i l. let le : slice_index levels i ≤ slice_index least i =
    below i in omega arith in
    let supported : row.value ≤ worth top least (row_at s.rows row.by) =
    worth-carried row.value top levels least h.positive carries (row_at s.rows row.by) h.supported in
    let highest : worth top least (row_at s.rows row.by)
    ≤ highest_worth top least (row_at s.rows row.by).authorizer s.rows =
    worth-highest top least s.rows row.by h.named in
    let own : highest_worth top least (row_at s.rows row.by).authorizer s.rows
    ≡ highest_worth top least row.principal s.rows = ap (λ p. highest_worth top least p s.rows) h.own in
    let is : IsByPrincipal s row.principal (slice_index_or s.requesters row.principal true) =
    by_principal s row.principal true h.principal in
    let after : slice_index (round s least) row.principal ≡ highest_worth top least row.principal s.rows =
    is.after least ∙ ap (λ b. round_at top s.rows least row.principal b) h.other in
    let fixed : slice_index (round s least) row.principal ≡ slice_index least row.principal =
    ap (λ (levels' : List ℕ). slice_index levels' row.principal) (least_levels-is_least s).fixed in
    omega arith

-- steps stay at or below the least levels
pub steps-below : (s : SystemEquations) (levels : List ℕ) (rows : List ProofRow) → length levels ≡ length s.requesters
    → AreSteps s levels rows → Below levels (least_levels s) → Below (levels_after levels rows) (least_levels s)
steps-below s levels [] size h below = below
steps-below s levels (row ∷ rows) size h below =
    steps-below s (slice_set levels row.principal row.value) rows (length-set levels row.principal row.value ∙ size) h.1
    (set_at levels row.principal row.value (λ i level. level ≤ slice_index (least_levels s) i)
    (omega (arith, h.0.principal)) (step-least s levels row h.0 below) (λ i differs. below i))

-- each principal has one level at first
pub size-at_first : (s : SystemEquations) → length (at_first s) ≡ length s.requesters
size-at_first s = simp length-map

-- the levels after a proof's rows are the least ones
pub proof-determines : (s : SystemEquations) (rows : List ProofRow) (claimed : ℕ) → IsProof s rows claimed
    → IsDetermined s rows claimed
proof-determines s rows claimed h =
    let start : List ℕ = at_first s in
    let after : List ℕ = levels_after start rows in
    let least : List ℕ = least_levels s in
    let is : IsLeast s least = least_levels-is_least s in
    let first : Below start least = λ i. let le : slice_index start i ≤ slice_index (round s least) i =
    at_first-below s least i in let same : slice_index (round s least) i ≡ slice_index least i =
    ap (λ (levels' : List ℕ). slice_index levels' i) is.fixed in omega arith in
    let above : Below least after =
    is.lowest after (closed-stays s after (steps-raise s start rows (size-at_first s) h.steps) h.closed) in
    let below : Below after least = steps-below s start rows (size-at_first s) h.steps first in
    let size : length after ≡ length least = size-after start rows ∙ size-at_first s ∙ sym (length-round s least)
    ∙ ap length is.fixed in
    let same : after ≡ least = Below-both after least size below above in
    record { levels = same; claim = sym h.claim ∙ ap (λ (levels' : List ℕ). slice_index levels' 0) same }
