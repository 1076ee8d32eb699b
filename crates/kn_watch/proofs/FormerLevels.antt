-- Levels that were found before a system changed.
use Rattle.std.proofs.Common.{◌≡◌, ℕ, zero, suc, ◌+◌, ◌-◌, ◌<◌, ◌≤◌, All, Bool, true, false, cond, eqb, List, [], ◌∷◌}
use Rattle.std.proofs.Common.{◌++◌, length, length-append, replicate, slice_set, slice_index, refl, sym, ap, ◌∙◌, inl}
use Rattle.std.proofs.Common.{inr, arith}
use Rattle.std.proofs.lemmas.Bool.{cases_eq}
use Rattle.std.proofs.lemmas.Bool.Decides.{nat_tests}
use Rattle.std.proofs.lemmas.List.{append_assoc, append-nil}
use Rattle.std.proofs.lemmas.List.Elements.{All-nil, All-cons}
use Rattle.kn_settle.specs.QuerySystem.{capped_from}
use Rattle.kn_system.specs.Equations.{SystemEquations, with_row_ceiling, row_at}
use Rattle.kn_system.specs.Least.{least_levels}
use Rattle.kn_system.specs.Rows.{SystemRow}
use Rattle.kn_system.proofs.Settles.{least_levels-is_least}
use Rattle.kn_system.proofs.Rounds.{length-round}
use Rattle.kn_watch.specs.declared.changed.Changed.{Changed}
use Rattle.kn_watch.specs.Changes.{put_back, row_before, system_before}
use Rattle.kn_watch.specs.Watched.{AreCeilings, IsWatchedOf, WatchedLevels, change_of, changes_from, former_system}

-- the row with this ceiling
abbrev pub with_ceiling : SystemRow → ℕ → SystemRow
with_ceiling row ceiling = record { authorizer = row.authorizer; ceiling = ceiling; formula = row.formula }

put_back-append : (first second : List Changed) (rows : List SystemRow)
    → put_back (first ++ second) rows ≡ put_back second (put_back first rows)
put_back-append [] second rows = refl
put_back-append (change ∷ first) second rows =
    put_back-append first second (slice_set rows change.row (row_before rows change))

row_at-seam : (front : List SystemRow) (row : SystemRow) (rest : List SystemRow)
    → row_at (front ++ row ∷ rest) (length front) ≡ row
row_at-seam [] row rest = refl
row_at-seam (r ∷ front) row rest = row_at-seam front row rest

set-seam : (front : List SystemRow) (row other : SystemRow) (rest : List SystemRow)
    → slice_set (front ++ row ∷ rest) (length front) other ≡ front ++ other ∷ rest
set-seam [] row other rest = refl
set-seam (r ∷ front) row other rest = ap (λ rs. r ∷ rs) (set-seam front row other rest)

-- a row that changed gets its ceiling back
change-back : (ceilings : List ℕ) (i : ℕ) (front : List SystemRow) (row : SystemRow) (rest : List SystemRow)
    → length front ≡ i
    → put_back (change_of ceilings i row) (front ++ row ∷ rest) ≡ front ++ with_ceiling row (slice_index ceilings i)
    ∷ rest
change-back ceilings i front row rest size =
    elim (cases_eq row.ceiling (slice_index ceilings i)) [
      | inl same ↦
          let test : eqb row.ceiling (slice_index ceilings i) ≡ true = grind (arith, nat_tests) in
          ap (λ b. put_back (cond b [] ((record { row = i; before = slice_index ceilings i }) ∷ []))
          (front ++ row ∷ rest)) test
          ∙ ap (λ n. front ++ with_ceiling row n ∷ rest) same
      | inr differs ↦
          let test : eqb row.ceiling (slice_index ceilings i) ≡ false = grind (arith, nat_tests) in
          let all : List SystemRow = front ++ row ∷ rest in
          let here : row_at all i ≡ row = ap (row_at all) (sym size) ∙ row_at-seam front row rest in
          ap (λ b. put_back (cond b [] ((record { row = i; before = slice_index ceilings i }) ∷ [])) all) test
          ∙ ap (λ (r : SystemRow). slice_set all i (with_ceiling r (slice_index ceilings i))) here
          ∙ ap (λ n. slice_set all n (with_ceiling row (slice_index ceilings i))) (sym size)
          ∙ set-seam front row (with_ceiling row (slice_index ceilings i)) rest
    ]

changes-back : (ceilings : List ℕ) (i : ℕ) (front rest : List SystemRow) → length front ≡ i
    → put_back (changes_from ceilings i rest) (front ++ rest) ≡ front ++ capped_from ceilings i rest
changes-back ceilings i front [] size = refl
changes-back ceilings i front (row ∷ rest) size =
    let capped : SystemRow = with_ceiling row (slice_index ceilings i) in
    let next : List SystemRow = front ++ capped ∷ [] in
    let longer : length next ≡ suc i = omega (arith, length-append front (capped ∷ []), size) in
    put_back-append (change_of ceilings i row) (changes_from ceilings (suc i) rest) (front ++ row ∷ rest)
    ∙ ap (put_back (changes_from ceilings (suc i) rest)) (change-back ceilings i front row rest size
    ∙ sym (append_assoc front (capped ∷ []) rest))
    ∙ changes-back ceilings (suc i) next rest longer
    ∙ append_assoc front (capped ∷ []) (capped_from ceilings (suc i) rest)

-- the changes put back give the system as it was
pub changes-before : (ceilings : List ℕ) (s : SystemEquations)
    → system_before s (changes_from ceilings 0 s.rows) ≡ former_system ceilings s
changes-before ceilings s =
    ap (λ (rs : List SystemRow). record { levels = s.levels; requesters = s.requesters; rows = rs })
    (changes-back ceilings 0 [] s.rows refl)

-- the changed rows are rows
pub changes-within : (ceilings : List ℕ) (i n : ℕ) (rows : List SystemRow) → i + length rows ≤ n
    → All (λ (change : Changed). change.row < n) (changes_from ceilings i rows)
changes-within ceilings i n [] fit = All-nil (λ (change : Changed). change.row < n)
changes-within ceilings i n (row ∷ rows) fit =
    let rest : All (λ (change : Changed). change.row < n) (changes_from ceilings (suc i) rows) =
    changes-within ceilings (suc i) n rows (omega arith) in
    by (eqb row.ceiling (slice_index ceilings i)) (changes_from ceilings (suc i) rows) rest
  where
    by : (b : Bool) (others : List Changed) → All (λ (change : Changed). change.row < n) others
        → All (λ (change : Changed). change.row < n)
        (cond b [] ((record { row = i; before = slice_index ceilings i }) ∷ []) ++ others)
    by true others rest = rest
    by false others rest =
        All-cons (λ (change : Changed). change.row < n) (record { row = i; before = slice_index ceilings i }) others
        (omega arith) rest

-- rows with the ceilings that they have
capped-same : (ceilings : List ℕ) (k : ℕ) (rows : List SystemRow)
    → ((i : ℕ) → i < length rows → slice_index ceilings (k + i) ≡ (row_at rows i).ceiling)
    → capped_from ceilings k rows ≡ rows
capped-same ceilings k [] each = refl
capped-same ceilings k (row ∷ rows) each =
    let z : k ≡ k + 0 = omega arith in
    let here : slice_index ceilings k ≡ row.ceiling = ap (slice_index ceilings) z ∙ each 0 (omega arith) in
    let rest : capped_from ceilings (suc k) rows ≡ rows =
    capped-same ceilings (suc k) rows (λ i l. let e : suc k + i ≡ k + suc i = omega arith in
    ap (slice_index ceilings) e ∙ each (suc i) (omega arith)) in
    ap (λ n. with_ceiling row n ∷ capped_from ceilings (suc k) rows) here ∙ ap (λ rs. row ∷ rs) rest

pub former-now : (ceilings : List ℕ) (s : SystemEquations) → AreCeilings s.rows ceilings → former_system ceilings s ≡ s
former-now ceilings s are =
    ap (λ (rs : List SystemRow). record { levels = s.levels; requesters = s.requesters; rows = rs })
    (capped-same ceilings 0 s.rows (λ i l. let z : 0 + i ≡ i = omega arith in ap (slice_index ceilings) z
    ∙ are.each i l))

pub length-least : (s : SystemEquations) → length (least_levels s) ≡ length s.requesters
length-least s = sym (ap length (least_levels-is_least s).fixed) ∙ length-round s (least_levels s)

-- levels that were just found
pub watched-now : (levels ceilings : List ℕ) (s : SystemEquations) → levels ≡ least_levels s
    → AreCeilings s.rows ceilings → IsWatchedOf (record { levels = levels; ceilings = ceilings }) s
watched-now levels ceilings s least are =
    let none : length s.requesters - length levels ≡ 0 = omega (arith, ap length least, length-least s) in
    record {
      before = ap (λ n. levels ++ replicate n 0) none ∙ append-nil levels ∙ least
          ∙ ap least_levels (sym (former-now ceilings s are));
      within = omega (arith, are.size);
    }

capped-recapped : (ceilings : List ℕ) (k : ℕ) (rows : List SystemRow) (i ceiling : ℕ)
    → capped_from ceilings k (with_row_ceiling rows i ceiling) ≡ capped_from ceilings k rows
capped-recapped ceilings k [] i ceiling = refl
capped-recapped ceilings k (row ∷ rows) zero ceiling = refl
capped-recapped ceilings k (row ∷ rows) (suc i) ceiling =
    ap (λ rs. with_ceiling row (slice_index ceilings k) ∷ rs) (capped-recapped ceilings (suc k) rows i ceiling)

pub length-recapped : (rows : List SystemRow) (i ceiling : ℕ) → length (with_row_ceiling rows i ceiling) ≡ length rows
length-recapped [] i ceiling = refl
length-recapped (row ∷ rows) zero ceiling = refl
length-recapped (row ∷ rows) (suc i) ceiling = ap suc (length-recapped rows i ceiling)

-- a row with another ceiling
pub watched-recapped : (watched : WatchedLevels) (s : SystemEquations) (i ceiling : ℕ) → IsWatchedOf watched s
    → IsWatchedOf watched (record s { rows = with_row_ceiling s.rows i ceiling })
watched-recapped watched s i ceiling is = record {
  before = is.before
      ∙ ap (λ (rs : List SystemRow). least_levels (record { levels = s.levels; requesters = s.requesters; rows = rs }))
      (sym (capped-recapped watched.ceilings 0 s.rows i ceiling));
  within = omega (arith, is.within, length-recapped s.rows i ceiling);
}
