-- A proof has one row for each principal that has its level by a row.
use Rattle.std.proofs.Common.{◌≡◌, ℕ, ◌+◌, ◌-◌, ◌<◌, Bool, true, false, cond, List, [], ◌∷◌, slice_index}
use Rattle.std.proofs.Common.{slice_index_or, slice_set, length, min, inl, inr, refl, sym, ap, ◌∙◌, arith}
use Rattle.std.proofs.lemmas.Bool.{cases_eq}
use Rattle.std.proofs.lemmas.Bool.Decides.{nat_tests}
use Rattle.std.proofs.lemmas.List.{get_or_default, get_or-set_same, get_or-set_other, length-set}
use Rattle.kn_proof.specs.declared.row.Row.{Row as ProofRow}
use Rattle.kn_system.specs.Equations.{SystemEquations}
use Rattle.kn_system.specs.Least.{at_first, least_levels}
use Rattle.kn_system.specs.Lawful.{IsByPrincipal}
use Rattle.kn_system.specs.Proofs.{levels_after, AreSteps, IsProof, rows_of, HasOneRowEach}
use Rattle.kn_system.proofs.Rounds.{by_principal}
use Rattle.kn_system.proofs.ProofsDetermine.{proof-determines, size-at_first}

-- a requester has no row
none-of_requester : (s : SystemEquations) (levels : List ℕ) (rows : List ProofRow) (p : ℕ) → AreSteps s levels rows
    → slice_index_or s.requesters p true ≡ true → rows_of p rows ≡ 0
none-of_requester s levels [] p h e = refl
none-of_requester s levels (row ∷ rows) p h e =
    let rest : rows_of p rows ≡ 0 = none-of_requester s (slice_set levels row.principal row.value) rows p h.1 e in
    elim (cases_eq row.principal p) [
      | inl same ↦
          let other : true ≡ false = sym e ∙ ap (λ q. slice_index_or s.requesters q true) (sym same) ∙ h.0.other in
          absurd (cc)
      | inr differs ↦ grind (arith, nat_tests)
    ]

-- another principal has one row where it has a level, and had none before
one-of_other : (s : SystemEquations) (levels : List ℕ) (rows : List ProofRow) (p : ℕ)
    → length levels ≡ length s.requesters → AreSteps s levels rows
    → min 1 (slice_index levels p) + rows_of p rows ≡ min 1 (slice_index (levels_after levels rows) p)
one-of_other s levels [] p size h = omega arith
one-of_other s levels (row ∷ rows) p size h =
    let next : List ℕ = slice_set levels row.principal row.value in
    let rest : min 1 (slice_index next p) + rows_of p rows ≡ min 1 (slice_index (levels_after next rows) p) =
    one-of_other s next rows p (length-set levels row.principal row.value ∙ size) h.1 in
    let within : row.principal < length levels = omega (arith, h.0.principal) in
    elim (cases_eq p row.principal) [
      | inl same ↦
          let fresh : slice_index levels p ≡ 0 = ap (slice_index levels) same ∙ h.0.fresh in
          let given : slice_index next p ≡ row.value = ap (slice_index next) same
          ∙ get_or-set_same levels row.principal row.value 0 within in
          let some = h.0.positive in
          grind (arith, nat_tests)
      | inr differs ↦
          let kept : slice_index next p ≡ slice_index levels p =
          get_or-set_other levels row.principal p row.value 0 differs in
          grind (arith, nat_tests)
    ]

one-by : (s : SystemEquations) (p found : ℕ) (rows : List ProofRow) (b : Bool) → (b ≡ true → rows_of p rows ≡ 0)
    → slice_index (at_first s) p ≡ cond b (s.levels - 1) 0
    → min 1 (slice_index (at_first s) p) + rows_of p rows ≡ min 1 found → rows_of p rows ≡ cond b 0 (min 1 found)
one-by s p found rows true none first all = none refl
one-by s p found rows false none first all = omega arith

-- one row for each principal above the lowest level that is no requester, and none for the others
pub one-row-each : (s : SystemEquations) (rows : List ProofRow) (claimed : ℕ) → IsProof s rows claimed
    → HasOneRowEach s (least_levels s) rows
one-row-each s rows claimed h = λ p within.
    let start : List ℕ = at_first s in
    let is : IsByPrincipal s p (slice_index_or s.requesters p false) = by_principal s p false within in
    let all = one-of_other s start rows p (size-at_first s) h.steps in
    let least : slice_index (levels_after start rows) p ≡ slice_index (least_levels s) p =
    ap (λ (levels : List ℕ). slice_index levels p) (proof-determines s rows claimed h).levels in
    one-by s p (slice_index (least_levels s) p) rows (slice_index_or s.requesters p false)
    (λ requester. none-of_requester s start rows p h.steps (get_or_default s.requesters p true false within
    ∙ requester))
    is.first (all ∙ ap (min 1) least)
