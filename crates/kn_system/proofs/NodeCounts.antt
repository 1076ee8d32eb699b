-- How many nodes the formulas of the first rows have.
use Rattle.std.proofs.Common.{◌≡◌, ℕ, zero, suc, ◌+◌, ◌<◌, ◌≤◌, List, [], ◌∷◌, take, length, ap, ◌∙◌, add-one, arith}
use Rattle.kn_system.specs.Rows.{SystemRow}
use Rattle.kn_system.specs.Equations.{row_at, node_total}

pub node_total-take : (rows : List SystemRow) (k : ℕ) → node_total (take k rows) ≤ node_total rows
node_total-take [] zero = omega arith
node_total-take [] (suc k) = omega arith
node_total-take (row ∷ rows) zero = omega arith
node_total-take (row ∷ rows) (suc k) = let rest : node_total (take k rows) ≤ node_total rows = node_total-take rows k in
    omega arith

node_total-suc : (rows : List SystemRow) (k : ℕ) → k < length rows
    → node_total (take (suc k) rows) ≡ node_total (take k rows) + length (row_at rows k).formula
node_total-suc [] k within = absurd (omega arith)
node_total-suc (row ∷ rows) zero within = omega arith
node_total-suc (row ∷ rows) (suc k) within = let rest = node_total-suc rows k (omega arith) in omega (arith, rest)

pub node_total-more : (rows : List SystemRow) (k : ℕ) → k < length rows
    → node_total (take (k + 1) rows) ≡ node_total (take k rows) + length (row_at rows k).formula
node_total-more rows k within = ap (λ n. node_total (take n rows)) (add-one k) ∙ node_total-suc rows k within
