-- Pieces read from the right: how many formulas stand behind a place, and what their levels are.
use Rattle.std.proofs.Common.{◌≡◌, ℕ, suc, zero, ◌+◌, ◌-◌, ◌<◌, ◌≤◌, List, [], ◌∷◌, ◌++◌, All, cond, eqb, length, take}
use Rattle.std.proofs.Common.{drop, set, get_or, slice_index, refl, sym, ap, ◌∙◌, subst, inl, inr, arith}
use Rattle.std.proofs.lemmas.Bool.{cases_lt, cases_eq}
use Rattle.std.proofs.lemmas.Bool.Decides.{nat_tests}
use Rattle.std.proofs.lemmas.List.{drop-drop, drop_all, drop_more, length-drop, get_or-set_same, get_or-set_other}
use Rattle.std.proofs.lemmas.List.{get_or_past}
use Rattle.std.proofs.lemmas.List.Elements.{All-take, All-from_get_or}
use Rattle.kn_base.specs.Threshold.{threshold}
use Rattle.kn_system.specs.declared.rows.Piece.{Piece}
use Rattle.kn_system.specs.declared.rows.Piece.TheVariants.{Who, Gate}
use Rattle.kn_system.specs.Form.{gate_level, form_levels}
use Rattle.kn_system.proofs.Climb.{form_levels-le}
use Rattle.kn_system.specs.Forms.{AreForms, AreSpelt, AreTallied, form_count, often}

-- as many levels as formulas
pub length-form_levels : (top : ℕ) (xs : List ℕ) (ps : List Piece) → length (form_levels top xs ps) ≡ form_count ps
length-form_levels top xs [] = refl
length-form_levels top xs (Who p ∷ ps) = ap suc (length-form_levels top xs ps)
length-form_levels top xs (Gate k n ∷ ps) =
    let rest : length (form_levels top xs ps) ≡ form_count ps = length-form_levels top xs ps in
    omega (arith, length-drop n (form_levels top xs ps))

-- pieces that spell formulas are so many
pub form_count-forms : (principals n : ℕ) (ps : List Piece) → AreForms principals n ps → form_count ps ≡ n
form_count-forms principals zero [] h = refl
form_count-forms principals (suc n) [] h = absurd h
form_count-forms principals zero (p ∷ ps) h = absurd h
form_count-forms principals (suc n) (Who p ∷ ps) h = ap suc (form_count-forms principals n ps h.1)
form_count-forms principals (suc n) (Gate k m ∷ ps) h =
    let rest : form_count ps ≡ n + m = form_count-forms principals (n + m) ps h.1 in
    omega arith

-- and behind each of their gates stand enough
pub forms-spelt : (principals n : ℕ) (ps : List Piece) → AreForms principals n ps → AreSpelt principals ps
forms-spelt principals zero [] h = tt
forms-spelt principals (suc n) [] h = absurd h
forms-spelt principals zero (p ∷ ps) h = absurd h
forms-spelt principals (suc n) (Who p ∷ ps) h = (h.0, forms-spelt principals n ps h.1)
forms-spelt principals (suc n) (Gate k m ∷ ps) h =
    let rest : form_count ps ≡ n + m = form_count-forms principals (n + m) ps h.1 in
    (omega arith, forms-spelt principals (n + m) ps h.1)

-- so it is behind any place
pub AreSpelt-drop : (principals i : ℕ) (ps : List Piece) → AreSpelt principals ps → AreSpelt principals (drop i ps)
AreSpelt-drop principals zero ps h = h
AreSpelt-drop principals (suc i) [] h = tt
AreSpelt-drop principals (suc i) (Who p ∷ ps) h = AreSpelt-drop principals i ps h.1
AreSpelt-drop principals (suc i) (Gate k n ∷ ps) h = AreSpelt-drop principals i ps h.1

-- the pieces from a place on, where one was read there
piece_at : (ps : List Piece) (i : ℕ) (d piece : Piece) → i < length ps → get_or ps i d ≡ piece
    → drop i ps ≡ piece ∷ drop (i + 1) ps
piece_at ps i d piece l is = drop_more ps i d l ∙ ap (λ p. p ∷ drop (i + 1) ps) is

-- a principal that was read is in range
pub who_read : (principals i p : ℕ) (ps : List Piece) (d : Piece) → AreSpelt principals ps → i < length ps
    → get_or ps i d ≡ Who p → p < principals
who_read principals i p ps d h l is =
    (subst (AreSpelt principals) (piece_at ps i d (Who p) l is) (AreSpelt-drop principals i ps h)).0

pub who_done : (top i p : ℕ) (xs : List ℕ) (ps : List Piece) (d : Piece) → i < length ps → get_or ps i d ≡ Who p
    → form_levels top xs (drop i ps) ≡ slice_index xs p ∷ form_levels top xs (drop (i + 1) ps)
who_done top i p xs ps d l is = ap (form_levels top xs) (piece_at ps i d (Who p) l is)

-- behind a gate that was read stand as many formulas as it counts
pub gate_read : (principals i k n : ℕ) (ps : List Piece) (d : Piece) → AreSpelt principals ps → i < length ps
    → get_or ps i d ≡ Gate k n → n ≤ form_count (drop (i + 1) ps)
gate_read principals i k n ps d h l is =
    (subst (AreSpelt principals) (piece_at ps i d (Gate k n) l is) (AreSpelt-drop principals i ps h)).0

-- where formulas stand behind a place, it is none past the end
pub place_within : (ps : List Piece) (i : ℕ) → 0 < form_count (drop i ps) → i < length ps
place_within ps i some =
    elim (cases_lt i (length ps)) [
      | inl within ↦ within
      | inr past ↦ let none : form_count (drop i ps) ≡ 0 = ap form_count (drop_all i ps past) in absurd (omega arith)
    ]

-- the first of the numbers from a place on ends those before the next
pub take_next : (xs : List ℕ) (i x : ℕ) (rest : List ℕ) → drop i xs ≡ x ∷ rest → take (i + 1) xs ≡ take i xs ++ x ∷ []
take_next xs zero x rest e = rw e refl
take_next [] (suc i) x rest e = absurd (cc)
take_next (y ∷ xs) (suc i) x rest e =
    let next : take (i + 1) xs ≡ take i xs ++ x ∷ [] = take_next xs i x rest e in
    let one : i + 1 ≡ suc i = omega arith in
    let more : suc i + 1 ≡ suc (suc i) = omega arith in
    let same : take (suc i) xs ≡ take i xs ++ x ∷ [] = ap (λ n. take n xs) (sym one) ∙ next in
    ap (λ n. take n (y ∷ xs)) more ∙ ap (λ zs. y ∷ zs) same

pub drop_next : (xs : List ℕ) (i x : ℕ) (rest : List ℕ) → drop i xs ≡ x ∷ rest → drop (i + 1) xs ≡ rest
drop_next xs i x rest e = sym (drop-drop 1 i xs) ∙ ap (drop 1) e

-- each level stands at most as often as the list is long
pub often-le : (level : ℕ) (xs : List ℕ) → often level xs ≤ length xs
often-le level [] = omega arith
often-le level (x ∷ xs) = let rest = often-le level xs in grind (arith, nat_tests)

often-push : (level : ℕ) (xs : List ℕ) (x : ℕ) → often level (xs ++ x ∷ []) ≡ often level xs + cond (eqb x level) 1 0
often-push level [] x = omega arith
often-push level (y ∷ xs) x = let rest = often-push level xs x in omega arith

-- a tally with one more level
pub AreTallied-push : (tally xs : List ℕ) (x : ℕ) → length tally ≡ 64 → x < 64 → AreTallied tally xs
    → AreTallied (set tally x (slice_index tally x + 1)) (xs ++ x ∷ [])
AreTallied-push tally xs x size fits h = λ level l.
    let before : slice_index tally level ≡ often level xs = h level l in
    let push : often level (xs ++ x ∷ []) ≡ often level xs + cond (eqb x level) 1 0 = often-push level xs x in
    elim (cases_eq level x) [
      | inl same ↦
          let here : slice_index (set tally x (slice_index tally x + 1)) x ≡ slice_index tally x + 1 =
          get_or-set_same tally x (slice_index tally x + 1) 0 (omega arith) in
          let at_same : slice_index (set tally x (slice_index tally x + 1)) level
          ≡ slice_index (set tally x (slice_index tally x + 1)) x =
          ap (λ i. slice_index (set tally x (slice_index tally x + 1)) i) same in
          let read : slice_index tally level ≡ slice_index tally x = ap (λ i. slice_index tally i) same in
          grind (arith, nat_tests)
      | inr other ↦
          let here : slice_index (set tally x (slice_index tally x + 1)) level ≡ slice_index tally level =
          get_or-set_other tally x level (slice_index tally x + 1) 0 other in
          grind (arith, nat_tests)
    ]

-- before all parts of a gate were read, there is a place to read on from
pub next_within : (top at next part n : ℕ) (xs : List ℕ) (ps : List Piece) → n ≤ form_count (drop (at + 1) ps)
    → part < n
    → drop part (form_levels top xs (drop (at + 1) ps)) ≡ form_levels top xs (drop next ps) → next < length ps
next_within top at next part n xs ps enough l rest =
    let behind : List ℕ = form_levels top xs (drop (at + 1) ps) in
    let size : length behind ≡ form_count (drop (at + 1) ps) = length-form_levels top xs (drop (at + 1) ps) in
    let left : length (drop part behind) ≡ length behind - part = length-drop part behind in
    let same : length (drop part behind) ≡ length (form_levels top xs (drop next ps)) = ap length rest in
    let count : length (form_levels top xs (drop next ps)) ≡ form_count (drop next ps) =
    length-form_levels top xs (drop next ps) in
    place_within ps next (omega arith)

-- the level of a gate all of whose parts were read
pub gate_done : (top at next part k n result : ℕ) (xs : List ℕ) (ps : List Piece) (d : Piece) → at < length ps
    → get_or ps at d ≡ Gate k n → part ≡ n
    → drop part (form_levels top xs (drop (at + 1) ps)) ≡ form_levels top xs (drop next ps)
    → result ≡ threshold top k (take part (form_levels top xs (drop (at + 1) ps)))
    → form_levels top xs (drop at ps) ≡ result ∷ form_levels top xs (drop next ps)
gate_done top at next part k n result xs ps d l is all rest level =
    let behind : List ℕ = form_levels top xs (drop (at + 1) ps) in
    let here : form_levels top xs (drop at ps) ≡ gate_level top k n behind =
    ap (form_levels top xs) (piece_at ps at d (Gate k n) l is) in
    let at_part : gate_level top k n behind ≡ gate_level top k part behind =
    ap (λ m. gate_level top k m behind) (sym all) in
    here ∙ at_part ∙ ap (λ x. x ∷ drop part behind) (sym level) ∙ ap (λ ls. result ∷ ls) rest

-- levels at or below the top are so everywhere
pub low_at : (top : ℕ) (xs : List ℕ) → All (λ level. level ≤ top) xs → (i : ℕ) → slice_index xs i ≤ top
low_at top xs low i =
    elim (cases_lt i (length xs)) [
      | inl within ↦ low i 0 within
      | inr past ↦ let none : slice_index xs i ≡ 0 = get_or_past xs i 0 past in omega arith
    ]

-- and so are those of any formulas
pub levels_taken-le : (top n : ℕ) (xs : List ℕ) (ps : List Piece) → All (λ level. level ≤ top) xs
    → All (λ level. level ≤ top) (take n (form_levels top xs ps))
levels_taken-le top n xs ps low =
    let levels : List ℕ = form_levels top xs ps in
    let most : (i : ℕ) → slice_index levels i ≤ top = form_levels-le top xs (low_at top xs low) ps in
    All-take (λ level. level ≤ top) n levels (All-from_get_or (λ level. level ≤ top) levels 0 (λ i l. most i))
