-- A row that is worth nothing and principals without a row leave the least levels, and get the lowest one.
use Rattle.std.proofs.Common.{◌≡◌, ℕ, zero, suc, ◌+◌, ◌-◌, ◌<◌, ◌≤◌, Bool, false, cond, List, [], ◌∷◌, ◌++◌, length}
use Rattle.std.proofs.Common.{length-append, map, replicate, slice_index, refl, sym, ap, ◌∙◌, subst, inl, inr, arith}
use Rattle.std.proofs.lemmas.Bool.{cases_lt}
use Rattle.std.proofs.lemmas.List.{append_assoc, length_push, length-replicate, get_or_past, get_or_append_left}
use Rattle.std.proofs.lemmas.List.{get_or_push}
use Rattle.kn_settle.specs.QuerySystem.{capped_from}
use Rattle.kn_system.specs.Equations.{SystemEquations, row_at}
use Rattle.kn_system.specs.Least.{worth, at_first, least_levels}
use Rattle.kn_system.specs.Order.{Below}
use Rattle.kn_system.specs.Proofs.{IsClosed}
use Rattle.kn_system.specs.Rows.{SystemRow}
use Rattle.kn_system.proofs.ProofsDetermine.{closed-stays}
use Rattle.kn_system.proofs.Settles.{Below-both, least_levels-is_least}
use Rattle.kn_watch.specs.Watched.{HaveAuthorizers, IsWatchedOf, WatchedLevels, former_system, with_system_row}
use Rattle.kn_watch.proofs.StartLevels.{padded}
use Rattle.kn_watch.proofs.FormerLevels.{length-least, with_ceiling}
use Rattle.kn_watch.proofs.Worths.{first-least, least-closed, worth-below}

-- so many lowest levels
abbrev zeros : ℕ → List ℕ
zeros n = replicate n 0

length-zeros : (n : ℕ) → length (zeros n) ≡ n
length-zeros zero = refl
length-zeros (suc n) = ap suc (length-zeros n)

first-grown : (top : ℕ) (requesters : List Bool) (n : ℕ)
    → map (λ requester. cond requester top 0) (requesters ++ replicate n false)
    ≡ map (λ requester. cond requester top 0) requesters ++ replicate n 0
first-grown top [] zero = refl
first-grown top [] (suc n) = ap (λ ls. 0 ∷ ls) (first-grown top [] n)
first-grown top (r ∷ requesters) n = ap (λ ls. cond r top 0 ∷ ls) (first-grown top requesters n)

row-old : (s : SystemEquations) (row : SystemRow) (n i : ℕ) → i < length s.rows
    → row_at (with_system_row s row n).rows i ≡ row_at s.rows i
row-old s row n i within = get_or_append_left s.rows (row ∷ []) (record { authorizer = 0; ceiling = 0; formula = [] })
    i within

first-below : (s : SystemEquations) (row : SystemRow) (n : ℕ) → (i : ℕ)
    → slice_index (at_first (with_system_row s row n)) i ≡ slice_index (at_first s) i
first-below s row n i = ap (λ ls. slice_index ls i) (first-grown (s.levels - 1) s.requesters n)
    ∙ padded (at_first s) n i

-- the former levels, and zeros, are closed
grown-closed : (s : SystemEquations) (row : SystemRow) (n : ℕ) → row.ceiling ≡ 0
    → HaveAuthorizers (length s.requesters) s.rows
    → IsClosed (with_system_row s row n) (least_levels s ++ replicate n 0)
grown-closed s row n low fits = λ i l.
    let least : List ℕ = least_levels s in
    let more : List ℕ = least ++ replicate n 0 in
    let top : ℕ = s.levels - 1 in
    elim (cases_lt i (length s.rows)) [
      | inl within ↦
          let closed = least-closed s i within (fits i within) in
          let below : worth top more (row_at s.rows i) ≤ worth top least (row_at s.rows i) =
          worth-below top more least (row_at s.rows i) (λ p. let e = padded least n p in omega arith) in
          let same = padded least n (row_at s.rows i).authorizer in
          subst (λ (r : SystemRow). worth top more r ≤ slice_index more r.authorizer) (sym (row-old s row n i within))
          (omega arith)
      | inr past ↦
          let last : length s.rows ≡ i = omega (arith, length_push s.rows row) in
          let here : row_at (with_system_row s row n).rows i ≡ row =
          get_or_push s.rows row (record { authorizer = 0; ceiling = 0; formula = [] }) i last in
          subst (λ (r : SystemRow). worth top more r ≤ slice_index more r.authorizer) (sym here) (omega (arith, low))
    ]

-- the later levels are closed for the former rows
former-closed : (s : SystemEquations) (row : SystemRow) (n : ℕ) → HaveAuthorizers (length s.requesters) s.rows
    → IsClosed s (least_levels (with_system_row s row n))
former-closed s row n fits = λ i l.
    let t : SystemEquations = with_system_row s row n in
    let within : i < length t.rows = omega (arith, length_push s.rows row) in
    let same : row_at t.rows i ≡ row_at s.rows i = row-old s row n i l in
    let own : (row_at s.rows i).authorizer < length t.requesters =
    omega (arith, fits i l, length-append s.requesters (replicate n false)) in
    subst (λ (r : SystemRow). worth (s.levels - 1) (least_levels t) r ≤ slice_index (least_levels t) r.authorizer) same
    (least-closed t i within (subst (λ (r : SystemRow). r.authorizer < length t.requesters) (sym same) own))

pub grown-least : (s : SystemEquations) (row : SystemRow) (n : ℕ) → row.ceiling ≡ 0
    → HaveAuthorizers (length s.requesters) s.rows
    → least_levels (with_system_row s row n) ≡ least_levels s ++ replicate n 0
grown-least s row n low fits =
    let t : SystemEquations = with_system_row s row n in
    let least : List ℕ = least_levels s in
    let more : List ℕ = least ++ replicate n 0 in
    let started : Below (at_first t) more = (λ i.
    let a = first-below s row n i in
    let b = first-least s i in
    let c = padded least n i in
    omega arith) in
    let down : Below (least_levels t) more =
    (least_levels-is_least t).lowest more (closed-stays t more started (grown-closed s row n low fits)) in
    let begun : Below (at_first s) (least_levels t) = (λ i.
    let a = first-below s row n i in
    let b = first-least t i in
    omega arith) in
    let lower : Below least (least_levels t) =
    (least_levels-is_least s).lowest (least_levels t)
    (closed-stays s (least_levels t) begun (former-closed s row n fits)) in
    let up : Below more (least_levels t) = (λ i.
    let a = padded least n i in
    let b = lower i in
    omega arith) in
    let size : length (least_levels t) ≡ length more =
    omega (
      arith,
      length-least s,
      length-least t,
      length-append s.requesters (replicate n false),
      length-append least (replicate n 0),
      length-replicate n false,
      length-zeros n,
    ) in
    Below-both (least_levels t) more size down up

replicate-more : (m n : ℕ) → zeros m ++ zeros n ≡ zeros (m + n)
replicate-more zero n = let e : n ≡ zero + n = omega arith in ap zeros e
replicate-more (suc m) n =
    let e : suc (m + n) ≡ suc m + n = omega arith in
    ap (λ ls. 0 ∷ ls) (replicate-more m n) ∙ ap zeros e

capped-push : (ceilings : List ℕ) (k : ℕ) (rows : List SystemRow) (row : SystemRow)
    → capped_from ceilings k (rows ++ row ∷ []) ≡ capped_from ceilings k rows
    ++ with_ceiling row (slice_index ceilings (k + length rows)) ∷ []
capped-push ceilings k [] row = let e : k ≡ k + 0 = omega arith in
    ap (λ i. with_ceiling row (slice_index ceilings i) ∷ []) e
capped-push ceilings k (r ∷ rows) row =
    let e : suc k + length rows ≡ k + suc (length rows) = omega arith in
    ap (λ rs. with_ceiling r (slice_index ceilings k) ∷ rs) (capped-push ceilings (suc k) rows row
    ∙ ap (λ i. capped_from ceilings (suc k) rows ++ with_ceiling row (slice_index ceilings i) ∷ []) e)

capped-authorizer : (ceilings : List ℕ) (k : ℕ) (rows : List SystemRow) (i : ℕ)
    → (row_at (capped_from ceilings k rows) i).authorizer ≡ (row_at rows i).authorizer
capped-authorizer ceilings k [] i = refl
capped-authorizer ceilings k (row ∷ rows) zero = refl
capped-authorizer ceilings k (row ∷ rows) (suc i) = capped-authorizer ceilings (suc k) rows i

length-capped : (ceilings : List ℕ) (k : ℕ) (rows : List SystemRow) → length (capped_from ceilings k rows) ≡ length rows
length-capped ceilings k [] = refl
length-capped ceilings k (row ∷ rows) = ap suc (length-capped ceilings (suc k) rows)

-- levels that were found before a row was added, and principals that are no requesters
pub watched-grown : (watched : WatchedLevels) (s : SystemEquations) (row : SystemRow) (n : ℕ) → IsWatchedOf watched s
    → HaveAuthorizers (length s.requesters) s.rows → IsWatchedOf watched (with_system_row s row n)
watched-grown watched s row n is fits =
    let t : SystemEquations = with_system_row s row n in
    let old : SystemEquations = former_system watched.ceilings s in
    let l : ℕ = length watched.levels in
    let r : ℕ = length s.requesters in
    let capped : SystemRow = with_ceiling row 0 in
    let none : slice_index watched.ceilings (0 + length s.rows) ≡ 0 =
    get_or_past watched.ceilings (0 + length s.rows) 0 (omega (arith, is.within)) in
    let rows : capped_from watched.ceilings 0 t.rows ≡ old.rows ++ capped ∷ [] =
    capped-push watched.ceilings 0 s.rows row ∙ ap (λ c. old.rows ++ with_ceiling row c ∷ []) none in
    let system : former_system watched.ceilings t ≡ with_system_row old capped n =
    ap (λ (rs : List SystemRow). record { levels = s.levels; requesters = t.requesters; rows = rs }) rows in
    let own : HaveAuthorizers (length s.requesters) old.rows = (λ i within.
    subst (λ a. a < length s.requesters) (sym (capped-authorizer watched.ceilings 0 s.rows i))
    (fits i (omega (arith, within, length-capped watched.ceilings 0 s.rows)))) in
    let whole : l + (r - l) ≡ r =
    omega (
      arith,
      ap length is.before,
      length-append watched.levels (replicate (r - l) 0),
      length-zeros (r - l),
      length-least old,
    ) in
    let more : length t.requesters - l ≡ r - l + n =
    omega (arith, length-append s.requesters (replicate n false), length-replicate n false, whole) in
    record {
      before =
          ap (λ k. watched.levels ++ replicate k 0) more
          ∙ ap (λ ls. watched.levels ++ ls) (sym (replicate-more (r - l) n))
          ∙ sym (append_assoc watched.levels (replicate (r - l) 0) (replicate n 0))
          ∙ ap (λ ls. ls ++ replicate n 0) is.before ∙ sym (grown-least old capped n refl own)
          ∙ ap least_levels (sym system);
      within = omega (arith, is.within, length_push s.rows row);
    }
