-- Every system has a proof: principals can be settled from the highest level down.
use Rattle.std.proofs.Common.{◌≡◌, ℕ, suc, zero, ◌-◌, ◌<◌, ◌≤◌, ◌⊎◌, List, slice_index, length, inl, inr, sym, subst}
use Rattle.std.proofs.Common.{arith}
use Rattle.std.proofs.lemmas.Bool.{cases_lt, cases_eq}
use Rattle.kn_proof.specs.declared.row.Row.{Row as ProofRow}
use Rattle.kn_system.specs.Equations.{SystemEquations, IsSystem, row_at}
use Rattle.kn_system.specs.Least.{worth, at_first, least_levels}
use Rattle.kn_system.specs.Lawful.{IsGranted}
use Rattle.kn_system.specs.Proofs.{IsProof}
use Rattle.kn_system.specs.Settled.{IsSettled, IsGrant, HasNoneBefore, count_unsettled}
use Rattle.kn_system.proofs.ProofsDetermine.{proof-determines}
use Rattle.kn_system.proofs.SettlingByLevels.{starts, grants, goes_down, ends}

-- levels and rows at which all above v is settled
record Reached (s : SystemEquations) (v : ℕ) : Type 0 where
  levels : List ℕ
  rows : List ProofRow
  settled : IsSettled s v levels rows

-- either a row gives the level, or none does
found-before : (s : SystemEquations) (v : ℕ) (levels : List ℕ) (n : ℕ) → n ≤ length s.rows
    → ((i : ℕ) × IsGrant s v levels i) ⊎ HasNoneBefore s v levels n
found-before s v levels zero l = inr (λ i below. absurd (omega arith))
found-before s v levels (suc n) l =
    let level : ℕ = slice_index levels (row_at s.rows n).authorizer in
    let found : ℕ = worth (s.levels - 1) levels (row_at s.rows n) in
    elim (found-before s v levels n (omega arith)) [
      | inl one ↦ inl one
      | inr none ↦
          elim (cases_lt found v) [
            | inl less ↦
                inr (λ i below free.
                elim (cases_eq i n) [
                  | inl same ↦ subst (λ (j : ℕ). worth (s.levels - 1) levels (row_at s.rows j) < v) (sym same) less
                  | inr differs ↦ none i (omega arith) free
                ])
            | inr enough ↦
                elim (cases_lt 0 level) [
                  | inl some ↦
                      inr (λ i below free.
                      elim (cases_eq i n) [
                        | inl same ↦
                            let here : slice_index levels (row_at s.rows n).authorizer ≡ 0 =
                            subst (λ (j : ℕ). slice_index levels (row_at s.rows j).authorizer ≡ 0) same free in
                            absurd (omega arith)
                        | inr differs ↦ none i (omega arith) free
                      ])
                  | inr free ↦ inl (n, record { named = omega arith; fresh = omega arith; supported = enough })
                ]
          ]
    ]

-- one level is settled, by as many grants as principals are left
settle-at : (s : SystemEquations) (v n : ℕ) (levels : List ℕ) (rows : List ProofRow) → IsSystem s → 0 < v
    → count_unsettled levels ≤ n → IsSettled s v levels rows → Reached s (v - 1)
settle-at s v zero levels rows fits some few h =
    elim (found-before s v levels (length s.rows) (omega arith)) [
      | inl one ↦ let more : IsGranted s v levels rows one.0 = grants s v levels rows one.0 fits some h one.1 in
          absurd (omega (arith, more.fewer))
      | inr none ↦ record { levels = levels; rows = rows; settled = goes_down s v levels rows h none }
    ]
settle-at s v (suc n) levels rows fits some few h =
    elim (found-before s v levels (length s.rows) (omega arith)) [
      | inl one ↦
          let more : IsGranted s v levels rows one.0 = grants s v levels rows one.0 fits some h one.1 in
          settle-at s v n _ _ fits some (omega (arith, more.fewer)) more.settled
      | inr none ↦ record { levels = levels; rows = rows; settled = goes_down s v levels rows h none }
    ]

settle-down : (s : SystemEquations) (v : ℕ) → IsSystem s → Reached s v → Reached s 0
settle-down s zero fits r = r
settle-down s (suc v) fits r =
    let same : suc v - 1 ≡ v = omega arith in
    let next : Reached s (suc v - 1) =
    settle-at s (suc v) (count_unsettled r.levels) r.levels r.rows fits (omega arith) (omega arith) r.settled in
    settle-down s v fits (subst (Reached s) same next)

-- the policy's least level has a proof
pub proof-exists : (s : SystemEquations) → IsSystem s → (rows : List ProofRow)
    × IsProof s rows (slice_index (least_levels s) 0)
proof-exists s fits =
    let r : Reached s 0 =
    settle-down s (s.levels - 1) fits (record { levels = at_first s; rows = _; settled = starts s fits }) in
    let is : IsProof s r.rows (slice_index r.levels 0) = ends s r.levels r.rows r.settled in
    (r.rows, subst (IsProof s r.rows) (proof-determines s r.rows (slice_index r.levels 0) is).claim is)
