-- Flagging the authorizers of the rows that use a principal, and counting the steps of it.
use mathlib.Core.List.{IsPrefix}
use Rattle.std.proofs.Common.{◌≡◌, ℕ, suc, zero, ◌+◌, ◌-◌, ◌*◌, ◌<◌, ◌≤◌, ◌^◌, Bool, true, cond, min, Some, List}
use Rattle.std.proofs.Common.{[], ◌∷◌, length, take, slice_get, slice_index, sym, ap, ◌∙◌, subst, inl, inr, arith}
use Rattle.std.proofs.lemmas.Bool.{cases_lt}
use Rattle.std.proofs.lemmas.List.{take-append-le}
use Rattle.std.proofs.lemmas.Option.{get_or_from_slice_get, slice_get-get_or, slice_get_within}
use Rattle.kn_system.specs.Counts.{IsWithin}
use Rattle.kn_system.specs.Equations.{SystemEquations, row_at}
use Rattle.kn_system.specs.Nodes.{pieces_of, uses_of}
use Rattle.kn_system.specs.Rows.{SystemRow}
use Rattle.kn_settle.proofs.GateClimbs.{within-further, within-more, within-tick}
use Rattle.kn_watch.specs.Affected.{IsSubset, HasUsers, affected_nodes, is_affected, sum_over, use_count}
use Rattle.kn_watch.specs.Climbing.{row_of_node}
use Rattle.kn_watch.specs.Found.{AreFound, IsSpread, find_ticks, spread_ticks, sum_of}
use Rattle.kn_watch.proofs.FlaggedLists.{front-self, get-front}
use Rattle.kn_watch.proofs.Nodes.{row-use, use-row}
use Rattle.kn_watch.proofs.Sums.{sum_of-next, sum_of-take, sum_over-among}

-- a row's nodes are among those of the rows whose authorizer is affected, if its own is
pub row-nodes : (affected : List Bool) (rows : List SystemRow) (r : ℕ) → r < length rows
    → is_affected affected (row_at rows r).authorizer ≡ true
    → length (row_at rows r).formula ≤ affected_nodes affected rows
row-nodes affected [] r l e = absurd (omega arith)
row-nodes affected (row ∷ rows) zero l e =
    let here : cond (is_affected affected row.authorizer) (length row.formula) 0 ≡ length row.formula =
    ap (λ b. cond b (length row.formula) 0) e in
    omega arith
row-nodes affected (row ∷ rows) (suc r) l e = let rest = row-nodes affected rows r (omega arith) e in
    omega (arith, rest)

-- the nodes of the first rows, with one more of them
pub nodes-next : (affected : List Bool) (rows : List SystemRow) (r : ℕ) → r < length rows
    → affected_nodes affected (take (r + 1) rows) ≡ affected_nodes affected (take r rows)
    + cond (is_affected affected (row_at rows r).authorizer) (length (row_at rows r).formula) 0
nodes-next affected rows r l = ap (λ n. affected_nodes affected (take n rows)) one ∙ more affected rows r l
  where
    one : r + 1 ≡ suc r
    one = omega arith

    more : (affected : List Bool) (rows : List SystemRow) (r : ℕ) → r < length rows
        → affected_nodes affected (take (suc r) rows) ≡ affected_nodes affected (take r rows)
        + cond (is_affected affected (row_at rows r).authorizer) (length (row_at rows r).formula) 0
    more affected [] r l = absurd (omega arith)
    more affected (row ∷ rows) zero l = omega arith
    more affected (row ∷ rows) (suc r) l = let rest = more affected rows r (omega arith) in omega (arith, rest)

-- the authorizer of a use's row is affected, if the principal is
pub use-affected : (s : SystemEquations) (others : List Bool) (p k i : ℕ) → HasUsers s others
    → is_affected others p ≡ true → slice_get (uses_of p (pieces_of s.rows)) k ≡ Some i
    → row_of_node s.rows i < length s.rows
    → is_affected others (row_at s.rows (row_of_node s.rows i)).authorizer ≡ true
use-affected s others p k i users is e l = users p (row_of_node s.rows i) is l (use-row s p k i e)

-- and so is the authorizer that was read of it
pub own-affected : (s : SystemEquations) (others : List Bool) (p k i row a : ℕ) → HasUsers s others
    → is_affected others p ≡ true → slice_get (uses_of p (pieces_of s.rows)) k ≡ Some i → row ≡ row_of_node s.rows i
    → row < length s.rows
    → a ≡ (row_at s.rows row).authorizer → is_affected others a ≡ true
own-affected s others p k i row a users is e same l own =
    let there : row_of_node s.rows i < length s.rows = subst (λ r. r < length s.rows) same l in
    subst (λ q. is_affected others q ≡ true) (sym (own ∙ ap (λ r. (row_at s.rows r).authorizer) same))
    (use-affected s others p k i users is e there)

-- the authorizers of the rows of the uses from the n-th on are flagged
abbrev pub AreReached : SystemEquations → ℕ → ℕ → List Bool → Type 0
AreReached s p n flags = (k i : ℕ) → n ≤ k → slice_get (uses_of p (pieces_of s.rows)) k ≡ Some i
    → is_affected flags (row_at s.rows (row_of_node s.rows i)).authorizer ≡ true

-- of none at first
pub reached-none : (s : SystemEquations) (p : ℕ) (flags : List Bool) → AreReached s p (use_count s p) flags
reached-none s p flags = λ k i l e.
    let before : k < use_count s p = slice_get_within (uses_of p (pieces_of s.rows)) k i e in
    absurd (omega (arith, l, before))

pub reached-next : (s : SystemEquations) (p n i : ℕ) (flags next : List Bool)
    → slice_get (uses_of p (pieces_of s.rows)) n ≡ Some i → IsSubset flags next
    → is_affected next (row_at s.rows (row_of_node s.rows i)).authorizer ≡ true
    → AreReached s p (suc n) flags → AreReached s p n next
reached-next s p n i flags next e kept is h = λ k j l f.
    elim (cases_lt n k) [
      | inl behind ↦ kept (row_at s.rows (row_of_node s.rows j)).authorizer (h k j (omega (arith, behind)) f)
      | inr before ↦
          let same : k ≡ n = omega arith in
          let one : Some i ≡ Some j = sym e ∙ ap (slice_get (uses_of p (pieces_of s.rows))) (sym same) ∙ f in
          let i_is : i ≡ j = (cc) in
          subst (λ m. is_affected next (row_at s.rows (row_of_node s.rows m)).authorizer ≡ true) i_is is
    ]

-- all of them
pub reached-all : (s : SystemEquations) (p : ℕ) (flags : List Bool) → AreReached s p 0 flags → IsSpread s p flags
reached-all s p flags h = λ r l usage.
    let (k, i, e, row) = row-use s p r l usage in
    subst (λ q. is_affected flags (row_at s.rows q).authorizer ≡ true) row (h k i (omega arith) e)

mul_le : (a b n : ℕ) → a ≤ b → a * n ≤ b * n
mul_le a b n l = grind arith

-- the steps of so many uses, and of reading the last one
abbrev pub AreUseTicks : SystemEquations → List Bool → ℕ → ℕ → ℕ → Type 0
AreUseTicks s others n old new = IsWithin (n * (affected_nodes others s.rows + 1) + 1) old new

pub first-ticks : (s : SystemEquations) (others : List Bool) (n old new : ℕ) → new ≡ min (old + 1) (2 ^ 64 - 1)
    → AreUseTicks s others n old new
first-ticks s others n old new tick = λ fits. (omega (arith, tick), omega (arith, tick))

pub use-ticks : (s : SystemEquations) (others : List Bool) (k n m old now row new : ℕ) → n ≡ k + 1
    → AreUseTicks s others k old now → m ≤ affected_nodes others s.rows → IsWithin m now row
    → new ≡ min (row + 1) (2 ^ 64 - 1) → AreUseTicks s others n old new
use-ticks s others k n m old now row new one h l w tick =
    let a : ℕ = affected_nodes others s.rows in
    subst (λ i. AreUseTicks s others i old new) (sym one)
    (within-more (k * (a + 1) + 1 + m + 1) ((k + 1) * (a + 1) + 1) old new (omega arith)
    (within-tick (k * (a + 1) + 1 + m) old row new (within-further (k * (a + 1) + 1) m old now row h w) tick))

-- they are within the bound
pub ticks-within : (s : SystemEquations) (others : List Bool) (p k old new : ℕ) → k ≤ use_count s p
    → AreUseTicks s others k old new → IsWithin (spread_ticks s others p) old new
ticks-within s others p k old new l h =
    let a : ℕ = affected_nodes others s.rows in
    let m : k * (a + 1) ≤ use_count s p * (a + 1) = mul_le k (use_count s p) (a + 1) l in
    within-more (k * (a + 1) + 1) (spread_ticks s others p) old new (omega arith) h

-- and so are those for the way from one more use to its row
pub ticks-break : (s : SystemEquations) (others : List Bool) (p k m old now new : ℕ) → k < use_count s p
    → AreUseTicks s others k old now → m ≤ affected_nodes others s.rows → IsWithin m now new
    → IsWithin (spread_ticks s others p) old new
ticks-break s others p k m old now new less h l w =
    let a : ℕ = affected_nodes others s.rows in
    let most : (k + 1) * (a + 1) ≤ use_count s p * (a + 1) =
    mul_le (k + 1) (use_count s p) (a + 1) (omega (arith, less)) in
    within-more (k * (a + 1) + 1 + m) (spread_ticks s others p) old new (omega arith)
    (within-further (k * (a + 1) + 1) m old now new h w)

-- of those found, the first have all authorizers of rows that use them flagged
abbrev pub AreSpread : SystemEquations → List ℕ → ℕ → List Bool → Type 0
AreSpread s found n flags = (i p : ℕ) → i < n → slice_get found i ≡ Some p → IsSpread s p flags

pub spread-next : (s : SystemEquations) (found more : List ℕ) (n p : ℕ) (flags next : List Bool)
    → slice_get found n ≡ Some p → IsPrefix found more → IsSubset flags next → IsSpread s p next
    → AreSpread s found n flags → AreSpread s more (n + 1) next
spread-next s found more n p flags next e (rest, longer) kept here h = λ i q l f.
    elim (cases_lt i n) [
      | inl before ↦
          let within : i < length found = omega (arith, before, slice_get_within found n p e) in
          let old : slice_get found i ≡ Some (slice_index found i) = slice_get-get_or found i 0 within in
          let new : slice_get more i ≡ Some (slice_index found i) = ap (λ xs. slice_get xs i) (sym longer)
          ∙ get-front found rest i (slice_index found i) old in
          let one : Some (slice_index found i) ≡ Some q = sym new ∙ f in
          let same : slice_index found i ≡ q = (cc) in
          let was : IsSpread s q flags = h i q before (old ∙ one) in
          (λ r named usage. kept (row_at s.rows r).authorizer (was r named usage))
      | inr past ↦
          let at : n ≡ i = omega arith in
          let new : slice_get more n ≡ Some p = ap (λ xs. slice_get xs n) (sym longer) ∙ get-front found rest n p e in
          let one : Some p ≡ Some q = sym new ∙ ap (slice_get more) at ∙ f in
          let same : p ≡ q = (cc) in
          subst (λ m. IsSpread s m next) same here
    ]

pub spread-all : (s : SystemEquations) (found : List ℕ) (n : ℕ) (flags : List Bool) → AreFound flags found
    → length found ≤ n → AreSpread s found n flags → HasUsers s flags
spread-all s found n flags are all h = λ p r is l usage.
    let (i, e) = are.listed p is in
    h i p (omega (arith, slice_get_within found i p e, all)) e r l usage

-- the steps for the first of those found
abbrev pub AreFindTicks : SystemEquations → List Bool → List ℕ → ℕ → ℕ → ℕ → Type 0
AreFindTicks s others found n old new = IsWithin (sum_of (spread_ticks s others) (take n found)) old new

pub find-next : (s : SystemEquations) (others : List Bool) (found more : List ℕ) (n p old now new : ℕ)
    → slice_get found n ≡ Some p → IsPrefix found more → AreFindTicks s others found n old now
    → IsWithin (spread_ticks s others p) now new
    → AreFindTicks s others more (n + 1) old new
find-next s others found more n p old now new e (rest, longer) h w =
    let f : ℕ → ℕ = spread_ticks s others in
    let l : n < length found = slice_get_within found n p e in
    let one : n + 1 ≡ suc n = omega arith in
    let front : take (suc n) more ≡ take (suc n) found = ap (take (suc n)) (sym longer)
    ∙ take-append-le (suc n) found rest (omega arith) in
    let step : sum_of f (take (suc n) found) ≡ sum_of f (take n found) + f (slice_index found n) =
    sum_of-next f n found l in
    let at : f (slice_index found n) ≡ f p = ap f (get_or_from_slice_get found n p 0 e) in
    let all : sum_of f (take (n + 1) more) ≡ sum_of f (take n found) + f p = ap (λ m. sum_of f (take m more)) one
    ∙ ap (sum_of f) front ∙ step ∙ ap (λ m. sum_of f (take n found) + m) at in
    within-more (sum_of f (take n found) + f p) (sum_of f (take (n + 1) more)) old new (omega arith)
    (within-further (sum_of f (take n found)) (f p) old now new h w)

-- they are within the bound
pub find-within : (s : SystemEquations) (others flags : List Bool) (found : List ℕ) (n old new : ℕ)
    → AreFound flags found → IsSubset flags others → AreFindTicks s others found n old new
    → IsWithin (find_ticks s others) old new
find-within s others flags found n old new are among h =
    let f : ℕ → ℕ = spread_ticks s others in
    let one : sum_of f (take n found) ≤ sum_of f found = sum_of-take f n found in
    let two : sum_of f found ≡ sum_over f 0 flags = are.sums f in
    let three : sum_over f 0 flags ≤ sum_over f 0 others = sum_over-among f 0 flags others among in
    within-more (sum_of f (take n found)) (find_ticks s others) old new (omega arith) h

-- and so are those for one more
pub find-within-next : (s : SystemEquations) (others flags : List Bool) (found : List ℕ) (n p old now new : ℕ)
    → slice_get found n ≡ Some p → AreFound flags found → IsSubset flags others → AreFindTicks s others found n old now
    → IsWithin (spread_ticks s others p) now new → IsWithin (find_ticks s others) old new
find-within-next s others flags found n p old now new e are among h w =
    find-within s others flags found (n + 1) old new are among
    (find-next s others found found n p old now new e (front-self found) h w)
