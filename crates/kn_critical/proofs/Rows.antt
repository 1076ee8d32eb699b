-- Assertions by the rows of a base: the flags of those that are there, and those without one.
use Rattle.std.proofs.Common.{◌≡◌, ℕ, zero, suc, ◌<◌, true, false, cond, not, List, [], ◌∷◌, length, map, drop}
use Rattle.std.proofs.Common.{replicate, slice_set, Some, refl, sym, ap, ◌∙◌, arith}
use Rattle.kn_proof.specs.declared.named.Id.{Id}
use Rattle.kn_meaning.specs.Critical.{is_same_id, without_part}
use Rattle.kn_meaning.specs.Equations.{Part}
use Rattle.kn_rows.specs.Numbering.{AreDistinct, IsAbsent}
use Rattle.kn_answer.specs.Removed.{live_parts}
use Rattle.kn_critical.specs.Searching.{HasRow}
use Rattle.kn_critical.proofs.Ids.{is_same_id-other, is_same_id-same}

-- where all are there
all-live : (parts : List Part) → live_parts parts (replicate (length parts) true) ≡ parts
all-live [] = refl
all-live (p ∷ parts) = ap (λ ps. p ∷ ps) (all-live parts)

-- no other has the id
others-stay : (parts : List Part) (id : Id) → IsAbsent (map (λ (p : Part). p.id) parts) id
    → without_part id parts ≡ parts
others-stay [] id none = refl
others-stay (p ∷ parts) id none =
    let other : is_same_id p.id id ≡ false = is_same_id-other p.id id (λ e. none 0 (ap Some e)) in
    ap (λ b. cond (not b) (p ∷ without_part id parts) (without_part id parts)) other
    ∙ ap (λ ps. p ∷ ps) (others-stay parts id (λ q here. none (suc q) here))

-- those that are there where one was taken out are those without it
pub live-without : (parts : List Part) (row : ℕ) (id : Id) → AreDistinct (map (λ (p : Part). p.id) parts)
    → HasRow parts id row
    → live_parts parts (slice_set (replicate (length parts) true) row false) ≡ without_part id parts
live-without [] row id distinct here = refl
live-without (p ∷ parts) zero id distinct here =
    let same : p.id ≡ id = cc in
    let gone : is_same_id p.id id ≡ true = is_same_id-same p.id id same in
    let none : IsAbsent (map (λ (q : Part). q.id) parts) id = λ q there. let zero_is : zero ≡ suc q =
    distinct zero (suc q) id here there in absurd (omega (arith, zero_is)) in
    all-live parts ∙ sym (ap (λ b. cond (not b) (p ∷ without_part id parts) (without_part id parts)) gone
    ∙ others-stay parts id none)
live-without (p ∷ parts) (suc row) id distinct here =
    let other : is_same_id p.id id ≡ false =
    is_same_id-other p.id id (λ e. let zero_is : zero ≡ suc row = distinct zero (suc row) id (ap Some e) here in
    absurd (omega (arith, zero_is))) in
    ap (λ ps. p ∷ ps)
    (live-without parts row id (λ a b item x y. let same : suc a ≡ suc b = distinct (suc a) (suc b) item x y in
    omega (arith, same)) here)
    ∙ sym (ap (λ b. cond (not b) (p ∷ without_part id parts) (without_part id parts)) other)

-- the assertion of a row is the first of those from there on
pub first-of_rest : (parts : List Part) (row : ℕ) (id : Id) → HasRow parts id row → (p : Part) × (p.id ≡ id)
    × (drop row parts ≡ p ∷ drop (suc row) parts)
first-of_rest [] row id here = absurd (cc)
first-of_rest (p ∷ parts) zero id here = let same : p.id ≡ id = cc in (p, same, refl)
first-of_rest (p ∷ parts) (suc row) id here = first-of_rest parts row id here

-- each row's assertion has an id
pub row-has : (parts : List Part) (row : ℕ) → row < length parts → (id : Id) × HasRow parts id row
row-has [] row within = absurd (omega (arith, within))
row-has (p ∷ parts) zero within = (p.id, refl)
row-has (p ∷ parts) (suc row) within = row-has parts row (omega (arith, within))
