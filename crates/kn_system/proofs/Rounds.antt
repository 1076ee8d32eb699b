-- One round: it keeps the order of levels, stays at or below the top, and raises the levels at first.
use Rattle.std.proofs.Common.{◌≡◌, ℕ, suc, zero, ◌+◌, ◌-◌, ◌<◌, ◌≤◌, Bool, true, false, cond, eqb, List, [], ◌∷◌}
use Rattle.std.proofs.Common.{slice_index, slice_index_or, length, map, max, inl, inr, refl, ap, ◌∙◌, arith}
use Rattle.std.proofs.lemmas.Bool.{cases_lt}
use Rattle.kn_system.specs.Rows.{SystemRow}
use Rattle.kn_system.specs.Equations.{SystemEquations}
use Rattle.kn_system.specs.Form.{form_level}
use Rattle.kn_system.specs.Least.{worth, highest_worth, round_at, round_from, round, at_first}
use Rattle.kn_system.specs.Lawful.{IsByPrincipal}
use Rattle.kn_system.specs.Order.{Below, Carries}
use Rattle.kn_system.proofs.Climb.{form_levels-carried, form_levels-le, Carries-cons}

pub worth-carried : (u top : ℕ) (xs ys : List ℕ) → 0 < u → Carries u xs ys → (row : SystemRow) → u ≤ worth top xs row
    → u ≤ worth top ys row
worth-carried u top xs ys h c row l =
    let form : u ≤ form_level top xs row.formula → u ≤ form_level top ys row.formula =
    form_levels-carried u top xs ys h c row.formula 0 in
    omega arith

max-carried : (u a b c d : ℕ) → (u ≤ a → u ≤ c) → (u ≤ b → u ≤ d) → u ≤ max a b → u ≤ max c d
max-carried u a b c d first rest l = grind arith

pub highest_worth-carried : (u top : ℕ) (xs ys : List ℕ) → 0 < u → Carries u xs ys → (p : ℕ) (rows : List SystemRow)
    → u ≤ highest_worth top xs p rows → u ≤ highest_worth top ys p rows
highest_worth-carried u top xs ys h c p [] = λ l. l
highest_worth-carried u top xs ys h c p (row ∷ rows) =
    let first : u ≤ worth top xs row → u ≤ worth top ys row = worth-carried u top xs ys h c row in
    let rest : u ≤ highest_worth top xs p rows → u ≤ highest_worth top ys p rows =
    highest_worth-carried u top xs ys h c p rows in
    elim (eqb row.authorizer p) as (λ b. u ≤ max (cond b (worth top xs row) 0) (highest_worth top xs p rows)
    → u ≤ max (cond b (worth top ys row) 0) (highest_worth top ys p rows)) [
      | true ↦ max-carried u (worth top xs row) (highest_worth top xs p rows) (worth top ys row)
          (highest_worth top ys p rows) first rest
      | false ↦ max-carried u 0 (highest_worth top xs p rows) 0 (highest_worth top ys p rows) (λ l. l) rest
    ]

pub round_at-carried : (u top : ℕ) (xs ys : List ℕ) → 0 < u → Carries u xs ys
    → (rows : List SystemRow) (p : ℕ) (requester : Bool) → u ≤ round_at top rows xs p requester
    → u ≤ round_at top rows ys p requester
round_at-carried u top xs ys h c rows p true l = l
round_at-carried u top xs ys h c rows p false l = highest_worth-carried u top xs ys h c p rows l

pub round_from-carried : (u top : ℕ) (xs ys : List ℕ) → 0 < u → Carries u xs ys
    → (rows : List SystemRow) (p : ℕ) (requesters : List Bool)
    → Carries u (round_from top rows xs p requesters) (round_from top rows ys p requesters)
round_from-carried u top xs ys h c rows p [] = λ i l. l
round_from-carried u top xs ys h c rows p (requester ∷ requesters) =
    Carries-cons u (round_at top rows xs p requester) (round_at top rows ys p requester)
    (round_from top rows xs (p + 1) requesters) (round_from top rows ys (p + 1) requesters)
    (round_at-carried u top xs ys h c rows p requester) (round_from-carried u top xs ys h c rows (p + 1) requesters)

-- a round of higher levels gives higher levels
pub round-below : (s : SystemEquations) (xs ys : List ℕ) → Below xs ys → Below (round s xs) (round s ys)
round-below s xs ys b = λ i.
    let u : ℕ = slice_index (round s xs) i in
    elim (cases_lt 0 u) [
      | inl above ↦
          round_from-carried u (s.levels - 1) xs ys above (λ j l. let le : slice_index xs j ≤ slice_index ys j = b j in
          omega arith) s.rows 0 s.requesters i (omega arith)
      | inr none ↦ omega arith
    ]

pub highest_worth-le : (top : ℕ) (xs : List ℕ) → ((i : ℕ) → slice_index xs i ≤ top) → (p : ℕ) (rows : List SystemRow)
    → highest_worth top xs p rows ≤ top
highest_worth-le top xs low p [] = omega arith
highest_worth-le top xs low p (row ∷ rows) =
    let form : form_level top xs row.formula ≤ top = form_levels-le top xs low row.formula 0 in
    let rest : highest_worth top xs p rows ≤ top = highest_worth-le top xs low p rows in
    elim (eqb row.authorizer p) as (λ b. max (cond b (worth top xs row) 0) (highest_worth top xs p rows) ≤ top) [
      | true ↦ omega arith
      | false ↦ omega arith
    ]

round_at-le : (top : ℕ) (xs : List ℕ) → ((i : ℕ) → slice_index xs i ≤ top)
    → (rows : List SystemRow) (p : ℕ) (requester : Bool) → round_at top rows xs p requester ≤ top
round_at-le top xs low rows p true = omega arith
round_at-le top xs low rows p false = highest_worth-le top xs low p rows

round_from-le : (top : ℕ) (xs : List ℕ) → ((i : ℕ) → slice_index xs i ≤ top)
    → (rows : List SystemRow) (p : ℕ) (requesters : List Bool) (i : ℕ)
    → slice_index (round_from top rows xs p requesters) i ≤ top
round_from-le top xs low rows p [] i = omega arith
round_from-le top xs low rows p (requester ∷ requesters) zero = round_at-le top xs low rows p requester
round_from-le top xs low rows p (requester ∷ requesters) (suc i) = round_from-le top xs low rows (p + 1) requesters i

-- where no level is above the top, none is after a round
pub round-le : (s : SystemEquations) (xs : List ℕ) → ((i : ℕ) → slice_index xs i ≤ s.levels - 1) → (i : ℕ)
    → slice_index (round s xs) i ≤ s.levels - 1
round-le s xs low i = round_from-le (s.levels - 1) xs low s.rows 0 s.requesters i

first_level-le : (top : ℕ) (requesters : List Bool) (i : ℕ)
    → slice_index (map (λ requester. cond requester top 0) requesters) i ≤ top
first_level-le top [] i = omega arith
first_level-le top (true ∷ requesters) zero = omega arith
first_level-le top (false ∷ requesters) zero = omega arith
first_level-le top (requester ∷ requesters) (suc i) = first_level-le top requesters i

-- no level at first is above the top
pub at_first-le : (s : SystemEquations) (i : ℕ) → slice_index (at_first s) i ≤ s.levels - 1
at_first-le s i = first_level-le (s.levels - 1) s.requesters i

first_below : (top : ℕ) (rows : List SystemRow) (xs : List ℕ) (p : ℕ) (requesters : List Bool) (i : ℕ)
    → slice_index (map (λ requester. cond requester top 0) requesters) i
    ≤ slice_index (round_from top rows xs p requesters) i
first_below top rows xs p [] i = omega arith
first_below top rows xs p (true ∷ requesters) zero = omega arith
first_below top rows xs p (false ∷ requesters) zero = omega arith
first_below top rows xs p (requester ∷ requesters) (suc i) = first_below top rows xs (p + 1) requesters i

-- the levels at first are at or below those after any round
pub at_first-below : (s : SystemEquations) (xs : List ℕ) → Below (at_first s) (round s xs)
at_first-below s xs = first_below (s.levels - 1) s.rows xs 0 s.requesters

length-round_from : (top : ℕ) (rows : List SystemRow) (xs : List ℕ) (p : ℕ) (requesters : List Bool)
    → length (round_from top rows xs p requesters) ≡ length requesters
length-round_from top rows xs p [] = refl
length-round_from top rows xs p (requester ∷ requesters) = ap suc (length-round_from top rows xs (p + 1) requesters)

-- a round gives each principal one level
pub length-round : (s : SystemEquations) (xs : List ℕ) → length (round s xs) ≡ length s.requesters
length-round s xs = length-round_from (s.levels - 1) s.rows xs 0 s.requesters

first_level-at : (top : ℕ) (requesters : List Bool) (i : ℕ) (d : Bool) → i < length requesters
    → slice_index (map (λ requester. cond requester top 0) requesters) i ≡ cond (slice_index_or requesters i d) top 0
first_level-at top [] i d l = absurd (omega arith)
first_level-at top (requester ∷ requesters) zero d l = refl
first_level-at top (requester ∷ requesters) (suc i) d l = first_level-at top requesters i d (omega arith)

round_from-at : (top : ℕ) (rows : List SystemRow) (xs : List ℕ) (p : ℕ) (requesters : List Bool) (i : ℕ) (d : Bool)
    → i < length requesters
    → slice_index (round_from top rows xs p requesters) i ≡ round_at top rows xs (p + i) (slice_index_or requesters i d)
round_from-at top rows xs p [] i d l = absurd (omega arith)
round_from-at top rows xs p (requester ∷ requesters) zero d l =
    let here : p ≡ p + 0 = omega arith in
    ap (λ q. round_at top rows xs q requester) here
round_from-at top rows xs p (requester ∷ requesters) (suc i) d l =
    let here : p + 1 + i ≡ p + suc i = omega arith in
    round_from-at top rows xs (p + 1) requesters i d (omega arith)
    ∙ ap (λ q. round_at top rows xs q (slice_index_or requesters i d)) here

-- the level of each principal at first and after a round
pub by_principal : (s : SystemEquations) (i : ℕ) (d : Bool) → i < length s.requesters
    → IsByPrincipal s i (slice_index_or s.requesters i d)
by_principal s i d l = record {
  first = first_level-at (s.levels - 1) s.requesters i d l;
  after = λ levels.
      let here : 0 + i ≡ i = omega arith in
      round_from-at (s.levels - 1) s.rows levels 0 s.requesters i d l
      ∙ ap (λ q. round_at (s.levels - 1) s.rows levels q (slice_index_or s.requesters i d)) here;
}
