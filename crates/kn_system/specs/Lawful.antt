-- The laws of the rounds and of the least levels.
use Rattle.std.specs.Prelude.{ℕ, ◌≡◌, ◌<◌, ◌-◌, Bool, List, [], ◌∷◌, ◌++◌, All, length, slice_index, slice_index_or}
use Rattle.std.specs.Prelude.{slice_set, if◌then◌else◌}
use Rattle.kn_proof.specs.declared.row.Row.{Row as ProofRow}
use Rattle.kn_system.specs.Equations.{SystemEquations, IsSystem, row_at}
use Rattle.kn_system.specs.Least.{round_at, round, at_first, rounds, least_levels}
use Rattle.kn_system.specs.Order.{Below}
use Rattle.kn_system.specs.Proofs.{levels_after, AreSteps, HasOneRowEach, IsProof, IsStep}
use Rattle.kn_system.specs.Settled.{IsSettled, IsGrant, HasNoneBefore, count_unsettled}

-- a round leaves these levels, and they are at or below all levels that no round raises
pub record IsLeast (s : SystemEquations) (levels : List ℕ) : Type 0 where
  pub fixed : round s levels ≡ levels
  pub lowest : (others : List ℕ) → Below (round s others) others → Below levels others

-- the least levels are a fixed point of the round, and at or below all that it doesn't raise
abbrev pub LeastLevelsAreLeast : Type 0
LeastLevelsAreLeast = (s : SystemEquations) → IsLeast s (least_levels s)

-- and only they are
abbrev pub LeastLevelsAreUnique : Type 0
LeastLevelsAreUnique = (s : SystemEquations) (levels : List ℕ) → IsLeast s levels → levels ≡ least_levels s

-- higher levels give higher levels after a round
abbrev pub RoundsAreMonotone : Type 0
RoundsAreMonotone = (s : SystemEquations) (xs ys : List ℕ) → Below xs ys → Below (round s xs) (round s ys)

-- rounds from the start stay at or below all levels that no round raises
abbrev pub RoundsStayBelow : Type 0
RoundsStayBelow =
    (s : SystemEquations) (n : ℕ) (others : List ℕ) → Below (round s others) others
    → Below (rounds s n (at_first s)) others

-- rounds from the start may stop where one of them changes nothing
abbrev pub RoundsMayStop : Type 0
RoundsMayStop =
    (s : SystemEquations) (n : ℕ) → round s (rounds s n (at_first s)) ≡ rounds s n (at_first s)
    → rounds s n (at_first s) ≡ least_levels s

-- levels that a round leaves stay after any number of them
abbrev pub FixedPointsStay : Type 0
FixedPointsStay = (s : SystemEquations) (n : ℕ) (levels : List ℕ) → round s levels ≡ levels → rounds s n levels ≡ levels

-- the level at first and after a round of a principal that is or isn't a requester
pub record IsByPrincipal (s : SystemEquations) (i : ℕ) (requester : Bool) : Type 0 where
  pub first : slice_index (at_first s) i ≡ (if requester then s.levels - 1 else 0)
  pub after : (levels : List ℕ) → slice_index (round s levels) i ≡ round_at (s.levels - 1) s.rows levels i requester

-- levels at first and after a round are given principal by principal
abbrev pub RoundsAreByPrincipal : Type 0
RoundsAreByPrincipal =
    (s : SystemEquations) (i : ℕ) (d : Bool) → i < length s.requesters
    → IsByPrincipal s i (slice_index_or s.requesters i d)

-- levels that fit a system: one for each principal, each below the number of levels
pub record AreLevels (s : SystemEquations) (levels : List ℕ) : Type 0 where
  pub size : length levels ≡ length s.requesters
  pub low : All (λ level. level < s.levels) levels

-- the levels at first fit, and so do those after a round
pub record KeepsLevels (s : SystemEquations) : Type 0 where
  pub start : AreLevels s (at_first s)
  pub step : (levels : List ℕ) → AreLevels s levels → AreLevels s (round s levels)

abbrev pub RoundsKeepLevels : Type 0
RoundsKeepLevels = (s : SystemEquations) → IsSystem s → KeepsLevels s

-- a proof's rows give each principal its least level, and the level that they prove is the policy's
pub record IsDetermined (s : SystemEquations) (rows : List ProofRow) (claimed : ℕ) : Type 0 where
  pub levels : levels_after (at_first s) rows ≡ least_levels s
  pub claim : claimed ≡ slice_index (least_levels s) 0

abbrev pub ProofDeterminesLevel : Type 0
ProofDeterminesLevel = (s : SystemEquations) (rows : List ProofRow) (claimed : ℕ) → IsProof s rows claimed
    → IsDetermined s rows claimed

-- a proof has one row for each principal that has its least level by a row
abbrev pub ProofsHaveOneRowEach : Type 0
ProofsHaveOneRowEach =
    (s : SystemEquations) (rows : List ProofRow) (claimed : ℕ) → IsProof s rows claimed
    → HasOneRowEach s (least_levels s) rows

-- the policy's least level has a proof
abbrev pub ProofExists : Type 0
ProofExists = (s : SystemEquations) → IsSystem s → (rows : List ProofRow)
    × IsProof s rows (slice_index (least_levels s) 0)

-- one more row of a proof gives its principal its level
pub record GoesOn (s : SystemEquations) (levels : List ℕ) (rows : List ProofRow) (row : ProofRow) : Type 0 where
  pub steps : AreSteps s levels (rows ++ row ∷ [])
  pub after : levels_after levels (rows ++ row ∷ []) ≡ slice_set (levels_after levels rows) row.principal row.value

-- a row that may stand after rows may follow them
abbrev pub ProofsGoOn : Type 0
ProofsGoOn =
    (s : SystemEquations) (levels : List ℕ) (rows : List ProofRow) (row : ProofRow) → AreSteps s levels rows
    → IsStep s (levels_after levels rows) row
    → GoesOn s levels rows row

-- before any row nothing above the top is open
abbrev pub SettlingStarts : Type 0
SettlingStarts = (s : SystemEquations) → IsSystem s → IsSettled s (s.levels - 1) (at_first s) []

-- after a row gives its authorizer the level, and a row of the proof says so
pub record IsGranted (s : SystemEquations) (v : ℕ) (levels : List ℕ) (rows : List ProofRow) (i : ℕ) : Type 0 where
  pub settled : IsSettled s v (slice_set levels (row_at s.rows i).authorizer v)
      (rows ++ (record { principal = (row_at s.rows i).authorizer; value = v; by = i }) ∷ [])
  pub fewer : count_unsettled (slice_set levels (row_at s.rows i).authorizer v) < count_unsettled levels

-- a row that gives its authorizer the level may do so
abbrev pub SettlingGrants : Type 0
SettlingGrants =
    (s : SystemEquations) (v : ℕ) (levels : List ℕ) (rows : List ProofRow) (i : ℕ) → IsSystem s → 0 < v
    → IsSettled s v levels rows → IsGrant s v levels i
    → IsGranted s v levels rows i

-- where no row gives the level, the next lower one may be settled
abbrev pub SettlingGoesDown : Type 0
SettlingGoesDown =
    (s : SystemEquations) (v : ℕ) (levels : List ℕ) (rows : List ProofRow) → IsSettled s v levels rows
    → HasNoneBefore s v levels (length s.rows)
    → IsSettled s (v - 1) levels rows

-- above the lowest level all is settled: the rows are a proof
abbrev pub SettlingEnds : Type 0
SettlingEnds =
    (s : SystemEquations) (levels : List ℕ) (rows : List ProofRow) → IsSettled s 0 levels rows
    → IsProof s rows (slice_index levels 0)
