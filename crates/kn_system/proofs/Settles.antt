-- Rounds from the levels at first climb to the least levels.
use Rattle.std.proofs.Common.{◌≡◌, ℕ, suc, zero, ◌+◌, ◌-◌, ◌*◌, ◌<◌, ◌≤◌, ◌⊎◌, List, [], ◌∷◌, All, slice_index, length}
use Rattle.std.proofs.Common.{inl, inr, refl, sym, ap, ◌∙◌, arith}
use Rattle.std.proofs.lemmas.Bool.{cases_lt}
use Rattle.std.proofs.lemmas.List.{ext_get_or, get_or_past, length-map}
use Rattle.std.proofs.lemmas.List.Elements.{All-from_get_or}
use Rattle.kn_system.specs.Equations.{SystemEquations, IsSystem}
use Rattle.kn_system.specs.Least.{round, rounds, at_first, least_levels}
use Rattle.kn_system.specs.Order.{Below}
use Rattle.kn_system.specs.Lawful.{IsLeast, KeepsLevels}
use Rattle.kn_system.proofs.Rounds.{round-below, round-le, at_first-le, at_first-below, length-round}

-- the sum of levels
abbrev pub total : List ℕ → ℕ
total [] = 0
total (x ∷ xs) = x + total xs

-- lists in order are equal, or the sum of the first is less
pub equal_or_less : (xs ys : List ℕ) → length xs ≡ length ys → Below xs ys → (xs ≡ ys) ⊎ (total xs < total ys)
equal_or_less [] [] e b = inl refl
equal_or_less [] (y ∷ ys) e b = absurd (cc)
equal_or_less (x ∷ xs) [] e b = absurd (cc)
equal_or_less (x ∷ xs) (y ∷ ys) e b =
    let first : x ≤ y = b 0 in
    let rest : (xs ≡ ys) ⊎ (total xs < total ys) = equal_or_less xs ys (cc) (λ i. b (suc i)) in
    elim rest [
      | inl same ↦
          elim (cases_lt x y) [
            | inl lower ↦ inr (omega (arith, ap total same))
            | inr no_lower ↦ let head : x ≡ y = omega arith in inl (cc)
          ]
      | inr less ↦ inr (omega arith)
    ]

-- the sum of levels at or below the top
pub total-le : (top : ℕ) (xs : List ℕ) → ((i : ℕ) → slice_index xs i ≤ top) → total xs ≤ length xs * top
total-le top [] low = omega arith
total-le top (x ∷ xs) low =
    let first : x ≤ top = low 0 in
    let rest : total xs ≤ length xs * top = total-le top xs (λ i. low (suc i)) in
    omega arith

-- levels that a round leaves stay after rounds
pub rounds-fixed : (s : SystemEquations) (n : ℕ) (xs : List ℕ) → round s xs ≡ xs → rounds s n xs ≡ xs
rounds-fixed s zero xs e = refl
rounds-fixed s (suc n) xs e = ap (λ levels. rounds s n levels) e ∙ rounds-fixed s n xs e

-- after n rounds that begin with a rise the levels stay, or the sum has risen by more than n
pub stays_or_rises : (s : SystemEquations) (n : ℕ) (xs : List ℕ) → length xs ≡ length s.requesters
    → Below xs (round s xs) → (round s (rounds s n xs) ≡ rounds s n xs)
    ⊎ (n + total xs < total (round s (rounds s n xs)))
stays_or_rises s zero xs e b =
    elim (equal_or_less xs (round s xs) (e ∙ sym (length-round s xs)) b) [
      | inl same ↦ inl (sym same)
      | inr less ↦ inr (omega arith)
    ]
stays_or_rises s (suc n) xs e b =
    let after : List ℕ = round s xs in
    let later : (round s (rounds s n after) ≡ rounds s n after)
    ⊎ (n + total after < total (round s (rounds s n after))) =
    stays_or_rises s n after (length-round s xs) (round-below s xs after b) in
    elim (equal_or_less xs after (e ∙ sym (length-round s xs)) b) [
      | inl same ↦
          let fixed : round s after ≡ after = ap (round s) (sym same) in
          let all : rounds s n after ≡ after = rounds-fixed s n after fixed in
          inl (ap (round s) all ∙ fixed ∙ sym all)
      | inr less ↦ elim later [ inl stays ↦ inl stays | inr rises ↦ inr (omega arith) ]
    ]

-- no round passes the top
rounds-le : (s : SystemEquations) (n : ℕ) (xs : List ℕ) → ((i : ℕ) → slice_index xs i ≤ s.levels - 1) → (i : ℕ)
    → slice_index (rounds s n xs) i ≤ s.levels - 1
rounds-le s zero xs low = low
rounds-le s (suc n) xs low = rounds-le s n (round s xs) (round-le s xs low)

-- the least levels are a fixed point
pub least_levels-fixed : (s : SystemEquations) → round s (least_levels s) ≡ least_levels s
least_levels-fixed s =
    let n : ℕ = length s.requesters * (s.levels - 1) in
    let start : List ℕ = at_first s in
    let most : total (round s (least_levels s)) ≤ length (round s (least_levels s)) * (s.levels - 1) =
    total-le (s.levels - 1) (round s (least_levels s))
    (round-le s (least_levels s) (rounds-le s n start (at_first-le s))) in
    let size : length (round s (least_levels s)) * (s.levels - 1) ≡ n =
    ap (λ k. k * (s.levels - 1)) (length-round s (least_levels s)) in
    elim (stays_or_rises s n start (simp length-map) (at_first-below s start)) [
      | inl stays ↦ stays
      | inr rises ↦ absurd (omega arith)
    ]

-- rounds from below levels that no round raises stay below them
pub rounds-below : (s : SystemEquations) (n : ℕ) (xs others : List ℕ) → Below xs others → Below (round s others) others
    → Below (rounds s n xs) others
rounds-below s zero xs others b raised = b
rounds-below s (suc n) xs others b raised =
    rounds-below s n (round s xs) others (λ i. let turned : slice_index (round s xs) i
    ≤ slice_index (round s others) i = round-below s xs others b i in
    let le : slice_index (round s others) i ≤ slice_index others i = raised i in omega arith) raised

-- and so do those from the levels at first
pub rounds_at_first-below : (s : SystemEquations) (n : ℕ) (others : List ℕ) → Below (round s others) others
    → Below (rounds s n (at_first s)) others
rounds_at_first-below s n others raised =
    rounds-below s n (at_first s) others (λ i. let first : slice_index (at_first s) i ≤ slice_index (round s others) i =
    at_first-below s others i in let le : slice_index (round s others) i ≤ slice_index others i = raised i in
    omega arith) raised

-- the least levels are a fixed point, and at or below all levels that no round raises
pub least_levels-is_least : (s : SystemEquations) → IsLeast s (least_levels s)
least_levels-is_least s = record {
  fixed = least_levels-fixed s;
  lowest = rounds_at_first-below s (length s.requesters * (s.levels - 1));
}

-- what a round leaves, no round raises
pub raised_by_none : (s : SystemEquations) (xs : List ℕ) → round s xs ≡ xs → Below (round s xs) xs
raised_by_none s xs e = λ i. let same : slice_index (round s xs) i ≡ slice_index xs i =
    ap (λ levels. slice_index levels i) e in omega arith

-- two lists at or below each other are equal
pub Below-both : (xs ys : List ℕ) → length xs ≡ length ys → Below xs ys → Below ys xs → xs ≡ ys
Below-both xs ys e below above =
    ext_get_or 0 xs ys e (λ i l. let le : slice_index xs i ≤ slice_index ys i = below i in
    let ge : slice_index ys i ≤ slice_index xs i = above i in omega arith)

-- rounds that change nothing more have reached the least levels
pub rounds-stop : (s : SystemEquations) (n : ℕ) → round s (rounds s n (at_first s)) ≡ rounds s n (at_first s)
    → rounds s n (at_first s) ≡ least_levels s
rounds-stop s n e =
    let reached : List ℕ = rounds s n (at_first s) in
    let least : IsLeast s (least_levels s) = least_levels-is_least s in
    let size : length reached ≡ length (least_levels s) = sym (ap length e) ∙ length-round s reached
    ∙ sym (length-round s (least_levels s)) ∙ ap length least.fixed in
    Below-both reached (least_levels s) size
    (rounds_at_first-below s n (least_levels s) (raised_by_none s (least_levels s) least.fixed))
    (least.lowest reached (raised_by_none s reached e))

-- levels that fit are at or below the top everywhere
pub low_everywhere : (levels : ℕ) (xs : List ℕ) → All (λ level. level < levels) xs → (i : ℕ)
    → slice_index xs i ≤ levels - 1
low_everywhere levels xs low i =
    elim (cases_lt i (length xs)) [
      | inl within ↦ let here : slice_index xs i < levels = low i 0 within in omega arith
      | inr past ↦ let none : slice_index xs i ≡ 0 = get_or_past xs i 0 past in omega arith
    ]

-- levels at or below the top fit
low_all : (levels : ℕ) (xs : List ℕ) → 0 < levels → ((i : ℕ) → slice_index xs i ≤ levels - 1)
    → All (λ level. level < levels) xs
low_all levels xs some low =
    All-from_get_or (λ level. level < levels) xs 0 (λ i l. let le : slice_index xs i ≤ levels - 1 = low i in
    omega arith)

-- the levels at first fit, and so do those after a round
pub keeps_levels : (s : SystemEquations) → IsSystem s → KeepsLevels s
keeps_levels s fits =
    let some : 0 < s.levels = omega arith in
    record {
      start = record { size = simp length-map; low = low_all s.levels (at_first s) some (at_first-le s) };
      step = λ xs kept. record {
        size = length-round s xs;
        low = low_all s.levels (round s xs) some (round-le s xs (low_everywhere s.levels xs kept.low));
      };
    }

-- only one list of levels is least
pub unique_least : (s : SystemEquations) (levels : List ℕ) → IsLeast s levels → levels ≡ least_levels s
unique_least s levels h =
    let least : IsLeast s (least_levels s) = least_levels-is_least s in
    let size : length levels ≡ length (least_levels s) = sym (ap length h.fixed) ∙ length-round s levels
    ∙ sym (length-round s (least_levels s)) ∙ ap length least.fixed in
    Below-both levels (least_levels s) size
    (h.lowest (least_levels s) (raised_by_none s (least_levels s) least.fixed))
    (least.lowest levels (raised_by_none s levels h.fixed))
