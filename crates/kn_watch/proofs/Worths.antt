-- What a row is worth depends on the principals that it uses alone; and no row is worth more than the least level of
-- its authorizer.
use Rattle.std.proofs.Common.{◌≡◌, ℕ, suc, zero, ◌+◌, ◌-◌, ◌*◌, ◌<◌, ◌≤◌, Bool, true, false, List, [], ◌∷◌, Some}
use Rattle.std.proofs.Common.{slice_get, slice_index, slice_index_or, take, drop, length, refl, ap, inl, inr, arith}
use Rattle.std.proofs.lemmas.Bool.{cases_lt}
use Rattle.std.proofs.lemmas.Bool.Decides.{nat_tests}
use Rattle.std.proofs.lemmas.List.{get_or-take, get_or-drop, get_or_past, length-take}
use Rattle.kn_base.specs.Threshold.{threshold}
use Rattle.kn_system.specs.declared.rows.Piece.{Piece}
use Rattle.kn_system.specs.declared.rows.Piece.TheVariants.{Who, Gate}
use Rattle.kn_system.specs.Equations.{SystemEquations, row_at}
use Rattle.kn_system.specs.Form.{form_level, form_levels}
use Rattle.kn_system.specs.Lawful.{IsByPrincipal}
use Rattle.kn_system.specs.Least.{worth, highest_worth, round_at, round, rounds, at_first, least_levels}
use Rattle.kn_system.specs.Order.{Below, Carries}
use Rattle.kn_system.specs.Rows.{SystemRow}
use Rattle.kn_system.proofs.Climb.{Carries-cons, form_levels-le}
use Rattle.kn_system.proofs.Thresholds.{threshold-carried}
use Rattle.kn_system.proofs.Settles.{least_levels-is_least}
use Rattle.kn_system.proofs.Rounds.{at_first-below, at_first-le, by_principal, round-le}
use Rattle.kn_watch.specs.Affected.{UsesPrincipal}

Carries-take : (u n : ℕ) (xs ys : List ℕ) → 0 < u → Carries u xs ys → Carries u (take n xs) (take n ys)
Carries-take u n xs ys h c = λ i l.
    elim (cases_lt i n) [
      | inl within ↦ rw get_or-take (c i (rw get_or-take at l))
      | inr past ↦
          let none : slice_index (take n xs) i ≡ 0 = get_or_past (take n xs) i 0 (omega (arith, length-take n xs)) in
          absurd (omega arith)
    ]

Carries-drop : (u n : ℕ) (xs ys : List ℕ) → Carries u xs ys → Carries u (drop n xs) (drop n ys)
Carries-drop u n xs ys c = λ i l. rw get_or-drop (c (n + i) (rw get_or-drop at l))

-- where those in the pieces that have u in the first levels have it in the second, each formula that reaches u does so
-- there
form_levels-used : (u top : ℕ) (xs ys : List ℕ) → 0 < u → (ps : List Piece)
    → ((i p : ℕ) → slice_get ps i ≡ Some (Who p) → u ≤ slice_index xs p → u ≤ slice_index ys p)
    → Carries u (form_levels top xs ps) (form_levels top ys ps)
form_levels-used u top xs ys h [] c = λ i l. l
form_levels-used u top xs ys h (Who p ∷ ps) c =
    let rest = form_levels-used u top xs ys h ps (λ i. c (suc i)) in
    Carries-cons u (slice_index xs p) (slice_index ys p) (form_levels top xs ps) (form_levels top ys ps) (c 0 p refl)
    rest
form_levels-used u top xs ys h (Gate k n ∷ ps) c =
    let before : List ℕ = form_levels top xs ps in
    let after : List ℕ = form_levels top ys ps in
    let rest : Carries u before after = form_levels-used u top xs ys h ps (λ i. c (suc i)) in
    Carries-cons u (threshold top k (take n before)) (threshold top k (take n after)) (drop n before) (drop n after)
    (threshold-carried top k u h (take n before) (take n after) (Carries-take u n before after h rest))
    (Carries-drop u n before after rest)

-- where no principal that a row uses has more in the first levels, the row isn't worth more there
pub worth-used : (top : ℕ) (xs ys : List ℕ) (row : SystemRow)
    → ((p : ℕ) → UsesPrincipal row p → slice_index xs p ≤ slice_index ys p) → worth top xs row ≤ worth top ys row
worth-used top xs ys row h =
    elim (cases_lt 0 (worth top xs row)) [
      | inl above ↦
          let u : ℕ = worth top xs row in
          let form : u ≤ form_level top xs row.formula → u ≤ form_level top ys row.formula =
          form_levels-used u top xs ys above row.formula (λ i p e l. let le = h p (i, e) in omega arith) 0 in
          let there : u ≤ form_level top ys row.formula = form (omega arith) in
          omega arith
      | inr none ↦ omega arith
    ]

-- nor where no principal has more
pub worth-below : (top : ℕ) (xs ys : List ℕ) (row : SystemRow) → Below xs ys → worth top xs row ≤ worth top ys row
worth-below top xs ys row b = worth-used top xs ys row (λ p used. b p)

worth-highest : (top : ℕ) (xs : List ℕ) (rows : List SystemRow) (i : ℕ) → i < length rows
    → worth top xs (row_at rows i) ≤ highest_worth top xs (row_at rows i).authorizer rows
worth-highest top xs [] i l = absurd (omega arith)
worth-highest top xs (row ∷ rows) zero l = grind (arith, nat_tests)
worth-highest top xs (row ∷ rows) (suc i) l = let rest = worth-highest top xs rows i (omega arith) in
    grind (arith, nat_tests)

rounds-low : (s : SystemEquations) (n : ℕ) (xs : List ℕ) → ((i : ℕ) → slice_index xs i ≤ s.levels - 1) → (i : ℕ)
    → slice_index (rounds s n xs) i ≤ s.levels - 1
rounds-low s zero xs low = low
rounds-low s (suc n) xs low = rounds-low s n (round s xs) (round-le s xs low)

-- no least level is above the top
pub least-low : (s : SystemEquations) (i : ℕ) → slice_index (least_levels s) i ≤ s.levels - 1
least-low s = rounds-low s (length s.requesters * (s.levels - 1)) (at_first s) (at_first-le s)

-- nor below the level at first
pub first-least : (s : SystemEquations) → Below (at_first s) (least_levels s)
first-least s = λ i.
    let first : slice_index (at_first s) i ≤ slice_index (round s (least_levels s)) i =
    at_first-below s (least_levels s) i in
    let same : slice_index (round s (least_levels s)) i ≡ slice_index (least_levels s) i =
    ap (λ (xs : List ℕ). slice_index xs i) (least_levels-is_least s).fixed in
    omega arith

round_at-most : (top w : ℕ) (rows : List SystemRow) (xs : List ℕ) (p : ℕ) (requester : Bool) → w ≤ top
    → w ≤ highest_worth top xs p rows → w ≤ round_at top rows xs p requester
round_at-most top w rows xs p true low h = low
round_at-most top w rows xs p false low h = h

-- no row is worth more than the least level of its authorizer
pub least-closed : (s : SystemEquations) (i : ℕ) → i < length s.rows
    → (row_at s.rows i).authorizer < length s.requesters
    → worth (s.levels - 1) (least_levels s) (row_at s.rows i)
    ≤ slice_index (least_levels s) (row_at s.rows i).authorizer
least-closed s i l fits =
    let top : ℕ = s.levels - 1 in
    let least : List ℕ = least_levels s in
    let a : ℕ = (row_at s.rows i).authorizer in
    let highest : worth top least (row_at s.rows i) ≤ highest_worth top least a s.rows =
    worth-highest top least s.rows i l in
    let form : form_level top least (row_at s.rows i).formula ≤ top =
    form_levels-le top least (least-low s) (row_at s.rows i).formula 0 in
    let is : IsByPrincipal s a (slice_index_or s.requesters a false) = by_principal s a false fits in
    let fixed : slice_index (round s least) a ≡ slice_index least a =
    ap (λ (xs : List ℕ). slice_index xs a) (least_levels-is_least s).fixed in
    let after : slice_index (round s least) a ≡ round_at top s.rows least a (slice_index_or s.requesters a false) =
    is.after least in
    let here : worth top least (row_at s.rows i) ≤ round_at top s.rows least a (slice_index_or s.requesters a false) =
    round_at-most top (worth top least (row_at s.rows i)) s.rows least a (slice_index_or s.requesters a false)
    (omega arith) highest in
    omega arith
