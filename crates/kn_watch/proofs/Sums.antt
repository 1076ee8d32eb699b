-- Sums over flags and over a list.
use Rattle.std.proofs.Common.{◌≡◌, ℕ, suc, zero, ◌+◌, ◌*◌, ◌<◌, ◌≤◌, Bool, true, false, cond, List, [], ◌∷◌, ◌++◌}
use Rattle.std.proofs.Common.{length, replicate, slice_set, take, slice_index, refl, ap, arith}
use Rattle.std.proofs.lemmas.Bool.{false≢true}
use Rattle.kn_watch.specs.Affected.{IsSubset, is_affected, sum_over}
use Rattle.kn_watch.specs.Found.{sum_of}

-- one more is flagged
pub sum_over-set : (f : ℕ → ℕ) (k : ℕ) (flags : List Bool) (j : ℕ) → j < length flags → is_affected flags j ≡ false
    → sum_over f k (slice_set flags j true) ≡ sum_over f k flags + f (k + j)
sum_over-set f k [] j l e = absurd (omega arith)
sum_over-set f k (flag ∷ flags) zero l e =
    let was : cond flag (f k) 0 ≡ 0 = ap (λ b. cond b (f k) 0) e in
    let z : f k ≡ f (k + 0) = ap f (omega arith) in
    omega arith
sum_over-set f k (flag ∷ flags) (suc j) l e =
    let rest = sum_over-set f (suc k) flags j (omega arith) e in
    let z : f (suc k + j) ≡ f (k + suc j) = ap f (omega arith) in
    omega (arith, rest, z)

pub sum_over-none : (f : ℕ → ℕ) (k n : ℕ) → sum_over f k (replicate n false) ≡ 0
sum_over-none f k zero = refl
sum_over-none f k (suc n) = let rest = sum_over-none f (suc k) n in omega (arith, rest)

-- one more in the list
pub sum_of-push : (f : ℕ → ℕ) (ps : List ℕ) (p : ℕ) → sum_of f (ps ++ p ∷ []) ≡ sum_of f ps + f p
sum_of-push f [] p = omega arith
sum_of-push f (q ∷ ps) p = let rest = sum_of-push f ps p in omega (arith, rest)

pub sum_of-take : (f : ℕ → ℕ) (n : ℕ) (ps : List ℕ) → sum_of f (take n ps) ≤ sum_of f ps
sum_of-take f zero ps = omega arith
sum_of-take f (suc n) [] = omega arith
sum_of-take f (suc n) (p ∷ ps) = let rest = sum_of-take f n ps in omega (arith, rest)

pub sum_of-next : (f : ℕ → ℕ) (n : ℕ) (ps : List ℕ) → n < length ps
    → sum_of f (take (suc n) ps) ≡ sum_of f (take n ps) + f (slice_index ps n)
sum_of-next f n [] l = absurd (omega arith)
sum_of-next f zero (p ∷ ps) l = omega arith
sum_of-next f (suc n) (p ∷ ps) l = let rest = sum_of-next f n ps (omega arith) in omega (arith, rest)

pub sum_of-ones : (ps : List ℕ) → sum_of (λ _. 1) ps ≡ length ps
sum_of-ones [] = refl
sum_of-ones (p ∷ ps) = let rest = sum_of-ones ps in omega (arith, rest)

pub sum_over-ones : (k : ℕ) (flags : List Bool) → sum_over (λ _. 1) k flags ≤ length flags
sum_over-ones k [] = omega arith
sum_over-ones k (true ∷ flags) = let rest = sum_over-ones (suc k) flags in omega (arith, rest)
sum_over-ones k (false ∷ flags) = let rest = sum_over-ones (suc k) flags in omega (arith, rest)

none-more : (f : ℕ → ℕ) (k : ℕ) (flags : List Bool) → ((p : ℕ) → is_affected flags p ≡ true → ⊥)
    → sum_over f k flags ≤ 0
none-more f k [] h = omega arith
none-more f k (true ∷ flags) h = absurd (h 0 refl)
none-more f k (false ∷ flags) h = let rest = none-more f (suc k) flags (λ p e. h (suc p) e) in omega (arith, rest)

-- the sum over more is no less
pub sum_over-among : (f : ℕ → ℕ) (k : ℕ) (flags others : List Bool) → IsSubset flags others
    → sum_over f k flags ≤ sum_over f k others
sum_over-among f k [] others h = omega arith
sum_over-among f k (flag ∷ flags) [] h = none-more f k (flag ∷ flags) (λ p e. false≢true (h p e))
sum_over-among f k (true ∷ flags) (true ∷ others) h = let rest =
    sum_over-among f (suc k) flags others (λ p e. h (suc p) e) in omega (arith, rest)
sum_over-among f k (true ∷ flags) (false ∷ others) h = absurd (false≢true (h 0 refl))
sum_over-among f k (false ∷ flags) (other ∷ others) h = let rest =
    sum_over-among f (suc k) flags others (λ p e. h (suc p) e) in omega (arith, rest)

-- a sum of multiples, and one each
pub sum_over-linear : (f : ℕ → ℕ) (c k : ℕ) (flags : List Bool)
    → sum_over (λ p. f p * c + 1) k flags ≡ sum_over f k flags * c + sum_over (λ _. 1) k flags
sum_over-linear f c k [] = omega arith
sum_over-linear f c k (true ∷ flags) = let rest = sum_over-linear f c (suc k) flags in omega (arith, rest)
sum_over-linear f c k (false ∷ flags) = let rest = sum_over-linear f c (suc k) flags in omega (arith, rest)
