-- What a row that was read says of settling.
use Rattle.std.proofs.Common.{◌≡◌, ◌<◌, ◌++◌, [], ◌∷◌, ℕ, List, slice_set, sym, ap}
use Rattle.std.proofs.Common.{◌∙◌, subst}
use Rattle.kn_proof.specs.declared.row.Row.{Row as ProofRow}
use Rattle.kn_system.specs.Equations.{SystemEquations, row_at}
use Rattle.kn_system.specs.Lawful.{IsGranted}
use Rattle.kn_system.specs.Settled.{IsSettled, count_unsettled}

-- the levels and the rows after it are settled
pub settled_read : (s : SystemEquations) (v p by : ℕ) (levels : List ℕ) (rows after : List ProofRow)
    → p ≡ (row_at s.rows by).authorizer
    → after ≡ rows ++ (record { principal = p; value = v; by = by }) ∷ [] → IsGranted s v levels rows by
    → IsSettled s v (slice_set levels p v) after
settled_read s v p by levels rows after own pushed h =
    let same : after ≡ rows ++ (record { principal = (row_at s.rows by).authorizer; value = v; by = by }) ∷ [] = pushed
    ∙ ap (λ (q : ℕ). rows ++ (record { principal = q; value = v; by = by }) ∷ []) own in
    subst (λ (q : ℕ). IsSettled s v (slice_set levels q v) after) (sym own)
    (subst (λ (rs : List ProofRow). IsSettled s v (slice_set levels (row_at s.rows by).authorizer v) rs) (sym same)
    h.settled)

-- and fewer are left
pub fewer_read : (s : SystemEquations) (v p by : ℕ) (levels : List ℕ) (rows : List ProofRow)
    → p ≡ (row_at s.rows by).authorizer → IsGranted s v levels rows by
    → count_unsettled (slice_set levels p v) < count_unsettled levels
fewer_read s v p by levels rows own h =
    subst (λ (q : ℕ). count_unsettled (slice_set levels q v) < count_unsettled levels) (sym own) h.fewer
