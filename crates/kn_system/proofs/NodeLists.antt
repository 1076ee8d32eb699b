-- Formulas in one list: their nodes, links and uses grow and shrink at the end.
use Rattle.std.proofs.Common.{◌≡◌, ℕ, suc, ◌+◌, Bool, true, false, eqb, cond, List, [], ◌∷◌, ◌++◌, length}
use Rattle.std.proofs.Common.{refl, ap, ◌∙◌, arith}
use Rattle.kn_system.specs.declared.rows.Piece.{Piece}
use Rattle.kn_system.specs.declared.rows.Piece.TheVariants.{Who, Gate}
use Rattle.kn_system.specs.Nodes.{uses_from, uses_of}

-- uses in pieces, and in further ones
pub uses_from-append : (p i : ℕ) (ps qs : List Piece)
    → uses_from p i (ps ++ qs) ≡ uses_from p i ps ++ uses_from p (i + length ps) qs
uses_from-append p i [] qs = ap (λ n. uses_from p n qs) (omega arith)
uses_from-append p i (Who q ∷ ps) qs =
    let rest : uses_from p (suc i) (ps ++ qs) ≡ uses_from p (suc i) ps ++ uses_from p (suc i + length ps) qs =
    uses_from-append p (suc i) ps qs in
    let here : suc i + length ps ≡ i + suc (length ps) = omega arith in
    let all : uses_from p (suc i) (ps ++ qs) ≡ uses_from p (suc i) ps ++ uses_from p (i + suc (length ps)) qs = rest
    ∙ ap (λ n. uses_from p (suc i) ps ++ uses_from p n qs) here in
    elim (eqb q p) as (λ b. cond b (i ∷ uses_from p (suc i) (ps ++ qs)) (uses_from p (suc i) (ps ++ qs))
    ≡ cond b (i ∷ uses_from p (suc i) ps) (uses_from p (suc i) ps) ++ uses_from p (i + suc (length ps)) qs) [
      | true ↦ ap (λ ns. i ∷ ns) all
      | false ↦ all
    ]
uses_from-append p i (Gate k n ∷ ps) qs =
    let rest : uses_from p (suc i) (ps ++ qs) ≡ uses_from p (suc i) ps ++ uses_from p (suc i + length ps) qs =
    uses_from-append p (suc i) ps qs in
    let here : suc i + length ps ≡ i + suc (length ps) = omega arith in
    rest ∙ ap (λ m. uses_from p (suc i) ps ++ uses_from p m qs) here

uses_of-append : (p : ℕ) (ps qs : List Piece) → uses_of p (ps ++ qs) ≡ uses_of p ps ++ uses_from p (length ps) qs
uses_of-append p ps qs = let e : 0 + length ps ≡ length ps = omega arith in uses_from-append p 0 ps qs
    ∙ ap (λ n. uses_of p ps ++ uses_from p n qs) e

-- one more principal
pub uses_of-who : (p q : ℕ) (ps : List Piece)
    → uses_of p (ps ++ Who q ∷ []) ≡ cond (eqb q p) (uses_of p ps ++ length ps ∷ []) (uses_of p ps)
uses_of-who p q ps = uses_of-append p ps (Who q ∷ []) ∙ by_test (eqb q p)
  where
    append_none : (xs : List ℕ) → xs ++ [] ≡ xs
    append_none [] = refl
    append_none (x ∷ xs) = ap (λ ys. x ∷ ys) (append_none xs)

    by_test : (b : Bool)
        → uses_of p ps ++ cond b (length ps ∷ []) [] ≡ cond b (uses_of p ps ++ length ps ∷ []) (uses_of p ps)
    by_test true = refl
    by_test false = append_none (uses_of p ps)

-- one more gate
pub uses_of-gate : (p k n : ℕ) (ps : List Piece) → uses_of p (ps ++ Gate k n ∷ []) ≡ uses_of p ps
uses_of-gate p k n ps = uses_of-append p ps (Gate k n ∷ []) ∙ append_none (uses_of p ps)
  where
    append_none : (xs : List ℕ) → xs ++ [] ≡ xs
    append_none [] = refl
    append_none (x ∷ xs) = ap (λ ys. x ∷ ys) (append_none xs)
