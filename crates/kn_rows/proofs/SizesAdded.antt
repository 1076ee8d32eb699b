-- How much assertions add.
use Rattle.std.proofs.Common.{◌≡◌, ℕ, zero, suc, ◌+◌, ◌<◌, ◌≤◌, List, [], ◌∷◌, ◌++◌, get_or, take, drop, length, map}
use Rattle.std.proofs.Common.{sym, ap, ◌∙◌, arith, add-one, drop-cons}
use Rattle.std.proofs.lemmas.List.{map-append, take_more}
use Rattle.kn_env.specs.Environment.{Asked}
use Rattle.kn_meaning.specs.Equations.{Part, statement_of}
use Rattle.kn_system.specs.Rows.{SystemRow}
use Rattle.kn_system.specs.Equations.{node_total}
use Rattle.kn_rows.specs.Sizes.{size_of, total_size}

pub node_total-longer : (rows : List SystemRow) (row : SystemRow)
    → node_total (rows ++ row ∷ []) ≡ node_total rows + length row.formula
node_total-longer [] row = omega arith
node_total-longer (r ∷ rows) row = let rest : node_total (rows ++ row ∷ []) ≡ node_total rows + length row.formula =
    node_total-longer rows row in omega arith

pub total_size-drop : (parts : List Part) (i : ℕ) (a : Part) → i < length parts → a ≡ get_or parts i a
    → total_size (drop i parts) ≡ size_of a + total_size (drop (i + 1) parts)
total_size-drop parts i a within here =
    let rest : drop i parts ≡ a ∷ drop (suc i) parts = drop-cons parts i a within
    ∙ ap (λ x. x ∷ drop (suc i) parts) (sym here) in
    ap total_size rest ∙ ap (λ k. size_of a + total_size (drop k parts)) (sym (add-one i))

pub total_size-split : (parts : List Part) (i : ℕ)
    → total_size parts ≡ total_size (take i parts) + total_size (drop i parts)
total_size-split parts zero = omega arith
total_size-split [] (suc i) = omega arith
total_size-split (part ∷ parts) (suc i) = let rest = total_size-split parts i in omega (arith, rest)

pub statements-more : (asked : Asked) (parts : List Part) (i : ℕ) (a : Part) → i < length parts → a ≡ get_or parts i a
    → map (statement_of asked) (take i parts) ++ statement_of asked a ∷ []
    ≡ map (statement_of asked) (take (i + 1) parts)
statements-more asked parts i a within here =
    sym (map-append (statement_of asked) (take i parts) (a ∷ []))
    ∙ ap (map (statement_of asked)) (ap (λ x. take i parts ++ x ∷ []) here ∙ sym (take_more parts i a within))

pub total_size-longer : (parts : List Part) (a : Part) → total_size (parts ++ a ∷ []) ≡ total_size parts + size_of a
total_size-longer [] a = omega arith
total_size-longer (b ∷ parts) a = let rest : total_size (parts ++ a ∷ []) ≡ total_size parts + size_of a =
    total_size-longer parts a in omega arith

-- each adds two at least
pub length-total_size : (parts : List Part) → length parts + length parts ≤ total_size parts
length-total_size [] = omega arith
length-total_size (part ∷ parts) = let rest = length-total_size parts in omega (arith, rest)
