-- How many nodes the formulas have that were read so far.
use Rattle.std.proofs.Common.{◌≡◌, ℕ, zero, suc, ◌+◌, ◌<◌, ◌≤◌, List, [], ◌∷◌, get_or, take, length, ap, ◌∙◌, add-one}
use Rattle.std.proofs.Common.{arith}
use Rattle.kn_proof.specs.declared.row.Row.{Row as ProofRow}
use Rattle.kn_system.specs.Equations.{SystemEquations, row_at}
use Rattle.kn_check.specs.Reads.{support_nodes}

pub support_nodes-take : (s : SystemEquations) (rows : List ProofRow) (k : ℕ)
    → support_nodes s (take k rows) ≤ support_nodes s rows
support_nodes-take s [] zero = omega arith
support_nodes-take s [] (suc k) = omega arith
support_nodes-take s (row ∷ rows) zero = omega arith
support_nodes-take s (row ∷ rows) (suc k) = let rest : support_nodes s (take k rows) ≤ support_nodes s rows =
    support_nodes-take s rows k in omega arith

support_nodes-suc : (s : SystemEquations) (rows : List ProofRow) (k : ℕ) (d : ProofRow) → k < length rows
    → support_nodes s (take (suc k) rows) ≡ support_nodes s (take k rows)
    + length (row_at s.rows (get_or rows k d).by).formula
support_nodes-suc s [] k d within = absurd (omega arith)
support_nodes-suc s (row ∷ rows) zero d within = omega arith
support_nodes-suc s (row ∷ rows) (suc k) d within = let rest = support_nodes-suc s rows k d (omega arith) in
    omega (arith, rest)

pub support_nodes-more : (s : SystemEquations) (rows : List ProofRow) (k : ℕ) (d : ProofRow) → k < length rows
    → support_nodes s (take (k + 1) rows) ≡ support_nodes s (take k rows)
    + length (row_at s.rows (get_or rows k d).by).formula
support_nodes-more s rows k d within = ap (λ n. support_nodes s (take n rows)) (add-one k)
    ∙ support_nodes-suc s rows k d within
