-- What the marks say of rows: which give a level, and that none is left when all that wait were tried.
use Rattle.std.proofs.Common.{◌≡◌, ◌≢◌, ℕ, zero, suc, ◌+◌, ◌-◌, ◌<◌, ◌≤◌, Bool, true, false, cond, eqb, nat_le, min}
use Rattle.std.proofs.Common.{Some, List, [], ◌∷◌, ◌++◌, All, length, map, take, drop, get_or, slice_get, slice_index}
use Rattle.std.proofs.Common.{slice_index_or, refl, sym, ap, ◌∙◌, subst, inl, inr, arith}
use Rattle.std.proofs.lemmas.Bool.{cases_lt}
use Rattle.std.proofs.lemmas.Bool.Decides.{nat_tests}
use Rattle.std.proofs.lemmas.List.{take-append-le, drop-append-le, get_or-map, length-map}
use Rattle.std.proofs.lemmas.List.Elements.{All-head, All-tail}
use Rattle.kn_base.specs.Threshold.{threshold}
use Rattle.kn_system.specs.declared.rows.Piece.{Piece}
use Rattle.kn_system.specs.declared.rows.Piece.TheVariants.{Who, Gate}
use Rattle.kn_system.specs.Equations.{SystemEquations, IsSystem, IsSystemRow, node_total, row_at}
use Rattle.kn_system.specs.Form.{form_level, form_levels, gate_level}
use Rattle.kn_system.specs.Forms.{AreForms}
use Rattle.kn_system.specs.Least.{worth}
use Rattle.kn_system.specs.Nodes.{pieces_of, row_ups, ups_of_rows}
use Rattle.kn_system.specs.Rows.{SystemRow}
use Rattle.kn_system.specs.Settled.{AreAbove, IsGrant, HasNoneBefore}
use Rattle.kn_system.proofs.KeptRows.{length-pieces_of}
use Rattle.kn_system.proofs.FormulasBehind.{form_count-forms, length-form_levels}
use Rattle.kn_settle.specs.Counters.{AreWaiting, AreWhole, IsCounted, IsCounting, IsReady, bucket_at, is_marked}
use Rattle.kn_settle.specs.Counters.{is_node, is_row, one_if, piece_at, under}
use Rattle.kn_settle.proofs.NodeParents.{system-forms}
use Rattle.kn_settle.proofs.MarkLevels.{AreOld, Agree, AgreesAt, agree-from, bits, forms-marked}

-- rows stand under no gate
rows-old : (i r n : ℕ) → AreOld i (row_ups r n)
rows-old i r zero = tt
rows-old i r (suc n) = ((λ g l. refl), rows-old i (suc r) n)

-- levels of formulas, and of further ones
levels-append : (p n top : ℕ) (xs : List ℕ) (ps qs : List Piece) → AreForms p n ps
    → form_levels top xs (ps ++ qs) ≡ form_levels top xs ps ++ form_levels top xs qs
levels-append p zero top xs [] qs h = refl
levels-append p (suc n) top xs [] qs h = absurd h
levels-append p zero top xs (x ∷ ps) qs h = absurd h
levels-append p (suc n) top xs (Who q ∷ ps) qs h = ap (λ ls. slice_index xs q ∷ ls) (levels-append p n top xs ps qs h.1)
levels-append p (suc n) top xs (Gate k m ∷ ps) qs h =
    let own : List ℕ = form_levels top xs ps in
    let others : List ℕ = form_levels top xs qs in
    let rest : form_levels top xs (ps ++ qs) ≡ own ++ others = levels-append p (n + m) top xs ps qs h.1 in
    let size : length own ≡ n + m = length-form_levels top xs ps ∙ form_count-forms p (n + m) ps h.1 in
    let first : take m (own ++ others) ≡ take m own = take-append-le m own others (omega (arith, size)) in
    let behind : drop m (own ++ others) ≡ drop m own ++ others = drop-append-le m own others (omega (arith, size)) in
    ap (gate_level top k m) rest ∙ ap (λ ls. threshold top k ls ∷ drop m (own ++ others)) first
    ∙ ap (λ ls. threshold top k (take m own) ∷ ls) behind

-- one formula has one level
one-level : (p top : ℕ) (xs : List ℕ) (ps : List Piece) → AreForms p 1 ps
    → form_levels top xs ps ≡ form_level top xs ps ∷ []
one-level p top xs ps h = single (form_levels top xs ps) (length-form_levels top xs ps ∙ form_count-forms p 1 ps h)
  where
    single : (ls : List ℕ) → length ls ≡ 1 → ls ≡ slice_index ls 0 ∷ []
    single [] e = absurd (cc)
    single (l ∷ []) e = refl
    single (l ∷ k ∷ ls) e = absurd (omega (arith, e))

-- the formulas of all rows have the levels of each
levels-of_rows : (levels p top : ℕ) (xs : List ℕ) (rows : List SystemRow) → All (IsSystemRow levels p) rows
    → form_levels top xs (pieces_of rows) ≡ map (λ (row : SystemRow). form_level top xs row.formula) rows
levels-of_rows levels p top xs [] h = refl
levels-of_rows levels p top xs (row ∷ rows) h =
    let first : IsSystemRow levels p row = All-head (IsSystemRow levels p) row rows h in
    let rest : form_levels top xs (pieces_of rows) ≡ map (λ (r : SystemRow). form_level top xs r.formula) rows =
    levels-of_rows levels p top xs rows (All-tail (IsSystemRow levels p) row rows h) in
    levels-append p 1 top xs row.formula (pieces_of rows) first.formula.one
    ∙ ap (λ ls. ls ++ form_levels top xs (pieces_of rows)) (one-level p top xs row.formula first.formula.one)
    ∙ ap (λ ls. form_level top xs row.formula ∷ ls) rest

later-rows : (r i n : ℕ) (bs : List Bool) → r < i → under (is_row r) bs (row_ups i n) ≡ 0
later-rows r i n [] l = refl
later-rows r i zero (b ∷ bs) l = refl
later-rows r i (suc n) (b ∷ bs) l =
    let rest = later-rows r (suc i) n bs (omega arith) in
    let other : eqb i r ≡ false = grind (arith, nat_tests) in
    let none : cond (eqb i r) (one_if b) 0 ≡ 0 = ap (λ c. cond c (one_if b) 0) other in
    omega (arith, rest, none)

-- of the rows one alone is this row
under-rows : (i r n : ℕ) (bs : List Bool) → r < n
    → under (is_row (i + r)) bs (row_ups i n) ≡ one_if (slice_index_or bs r false)
under-rows i r zero bs l = absurd (omega arith)
under-rows i r (suc n) [] l = refl
under-rows i zero (suc n) (b ∷ bs) l =
    let rest = later-rows (i + 0) (suc i) n bs (omega arith) in
    let own : eqb i (i + 0) ≡ true = grind (arith, nat_tests) in
    let here : cond (eqb i (i + 0)) (one_if b) 0 ≡ one_if b = ap (λ c. cond c (one_if b) 0) own in
    omega (arith, rest, here)
under-rows i (suc r) (suc n) (b ∷ bs) l =
    let next : i + suc r ≡ suc i + r = omega arith in
    let rest : under (is_row (i + suc r)) bs (row_ups (suc i) n) ≡ one_if (slice_index_or bs r false) =
    ap (λ x. under (is_row x) bs (row_ups (suc i) n)) next ∙ under-rows (suc i) r n bs (omega arith) in
    let other : eqb i (i + suc r) ≡ false = grind (arith, nat_tests) in
    let none : cond (eqb i (i + suc r)) (one_if b) 0 ≡ 0 = ap (λ c. cond c (one_if b) 0) other in
    omega (arith, rest, none)

-- a mark says whether its node has the level
agrees-whole : (s : SystemEquations) (v : ℕ) (levels : List ℕ) (marks : List Bool) (counts : List ℕ) → 0 < v
    → AreAbove v levels → IsCounted s marks counts (node_total s.rows) → AreWhole s levels marks
    → (j : ℕ) → j < node_total s.rows → (x : Piece) → piece_at s j ≡ x
    → AgreesAt v levels (λ g. under (is_node g) marks (ups_of_rows s.rows)) j x (is_marked marks j)
agrees-whole s v levels marks counts some above counted whole j l (Who q) e =
    whole j q l e ∙
    (elim (cases_lt 0 (slice_index levels q)) [
      | inl has ↦ let reaches : v ≤ slice_index levels q = above q has in grind (arith, nat_tests)
      | inr none ↦ grind (arith, nat_tests)
    ])
agrees-whole s v levels marks counts some above counted whole j l (Gate k n) e =
    let in_all : j ≢ node_total s.rows = (λ same. absurd (omega (arith, l, same))) in
    let count = counted.counted j k n e in
    counted.agreed j k n e in_all ∙
    (elim (cases_lt (under (is_node j) marks (ups_of_rows s.rows)) k) [
      | inl few ↦ grind (arith, nat_tests)
      | inr enough ↦ grind (arith, nat_tests)
    ])

-- the formula of a row is marked exactly where it reaches the level
pub row-mark : (s : SystemEquations) (v : ℕ) (levels : List ℕ) (marks : List Bool) (counts : List ℕ) (r : ℕ)
    → IsSystem s → 0 < v → v < s.levels → AreAbove v levels → IsCounted s marks counts (node_total s.rows)
    → AreWhole s levels marks → r < length s.rows
    → under (is_row r) marks (ups_of_rows s.rows)
    ≡ one_if (nat_le v (form_level (s.levels - 1) levels (row_at s.rows r).formula))
row-mark s v levels marks counts r is some low above counted whole within =
    let p : ℕ = length s.requesters in
    let top : ℕ = s.levels - 1 in
    let n : ℕ = length s.rows in
    let size : length marks ≡ length (pieces_of s.rows) = omega (arith, counted.marks_fit, length-pieces_of s.rows) in
    let agree : Agree v levels (λ g. under (is_node g) marks (ups_of_rows s.rows)) 0 (pieces_of s.rows) marks =
    agree-from v levels (λ g. under (is_node g) marks (ups_of_rows s.rows)) 0 (pieces_of s.rows) marks size
    (λ j l.
    let z : j ≡ 0 + j = omega arith in
    subst (λ i. AgreesAt v levels (λ g. under (is_node g) marks (ups_of_rows s.rows)) i
    (get_or (pieces_of s.rows) j (Who 0)) (get_or marks j false)) z
    (agrees-whole s v levels marks counts some above counted whole j (omega (arith, l, length-pieces_of s.rows))
    (piece_at s j) refl)) in
    let all : under (is_row r) marks (ups_of_rows s.rows)
    ≡ under (is_row r) (bits v (form_levels top levels (pieces_of s.rows))) (row_ups 0 n) =
    forms-marked p v top levels (λ g. under (is_node g) marks (ups_of_rows s.rows)) some (omega arith) 0 (row_ups 0 n)
    (pieces_of s.rows) marks (system-forms s is) agree (rows-old 0 0 n) (λ g l. refl) (is_row r) (λ g l. refl) in
    let each : form_levels top levels (pieces_of s.rows) ≡ map (λ (row : SystemRow). form_level top levels row.formula)
    s.rows = levels-of_rows s.levels p top levels s.rows is.rows_fit in
    let z : 0 + r ≡ r = omega arith in
    let one : under (is_row r) (bits v (form_levels top levels (pieces_of s.rows))) (row_ups 0 n)
    ≡ one_if (slice_index_or (bits v (form_levels top levels (pieces_of s.rows))) r false) =
    ap (λ x. under (is_row x) (bits v (form_levels top levels (pieces_of s.rows))) (row_ups 0 n)) (sym z)
    ∙ under-rows 0 r n (bits v (form_levels top levels (pieces_of s.rows))) within in
    let read : slice_index_or (map (λ (row : SystemRow). form_level top levels row.formula) s.rows) r 0
    ≡ form_level top levels (row_at s.rows r).formula =
    get_or-map (λ (row : SystemRow). form_level top levels row.formula) s.rows r
    (record { authorizer = 0; ceiling = 0; formula = [] }) 0 within in
    let count : length (map (λ (row : SystemRow). form_level top levels row.formula) s.rows) ≡ length s.rows =
    simp length-map in
    let inside : r < length (form_levels top levels (pieces_of s.rows)) =
    omega (arith, ap length each, count, within) in
    let bit : slice_index_or (bits v (form_levels top levels (pieces_of s.rows))) r false
    ≡ nat_le v (form_level top levels (row_at s.rows r).formula) =
    get_or-map (nat_le v) (form_levels top levels (pieces_of s.rows)) r 0 false inside
    ∙ ap (λ ls. nat_le v (slice_index_or ls r 0)) each ∙ ap (nat_le v) read in
    all ∙ one ∙ ap one_if bit

-- a row that waits in the bucket of the level may give it
pub waiting-grants : (s : SystemEquations) (v : ℕ) (levels : List ℕ) (marks : List Bool) (counts : List ℕ)
    (buckets : List (List ℕ)) (i r : ℕ) → IsSystem s → 0 < v → v < s.levels → AreAbove v levels
    → IsCounting s v levels marks counts buckets
    → slice_get (bucket_at buckets v) i ≡ Some r → slice_index levels (row_at s.rows r).authorizer ≡ 0
    → IsGrant s v levels r
waiting-grants s v levels marks counts buckets i r is some low above h e fresh =
    let ready : IsReady s marks v r = h.waits.good v i r e in
    let mark = row-mark s v levels marks counts r is some low above h.counted h.whole ready.named in
    let level : ℕ = form_level (s.levels - 1) levels (row_at s.rows r).formula in
    record {
      named = ready.named;
      fresh = fresh;
      supported = (elim (cases_lt level v) [
        | inl less ↦ let off : one_if (nat_le v level) ≡ 0 = grind (arith, nat_tests) in
            absurd (omega (arith, ready.fulfilled, mark, off))
        | inr reaches ↦ omega (arith, reaches, ready.ceiling)
      ]);
    }

-- where all that wait there have their level, no row gives it
pub none-left : (s : SystemEquations) (v : ℕ) (levels : List ℕ) (marks : List Bool) (counts : List ℕ)
    (buckets : List (List ℕ)) → IsSystem s → 0 < v → v < s.levels → AreAbove v levels
    → IsCounting s v levels marks counts buckets
    → ((i r : ℕ) → slice_get (bucket_at buckets v) i ≡ Some r → 0 < slice_index levels (row_at s.rows r).authorizer)
    → HasNoneBefore s v levels (length s.rows)
none-left s v levels marks counts buckets is some low above h done = λ r within free.
    let mark = row-mark s v levels marks counts r is some low above h.counted h.whole within in
    let level : ℕ = form_level (s.levels - 1) levels (row_at s.rows r).formula in
    elim (cases_lt (worth (s.levels - 1) levels (row_at s.rows r)) v) [
      | inl less ↦ less
      | inr reaches ↦
          let on : one_if (nat_le v level) ≡ 1 =
          (let high : v ≤ level = omega (arith, reaches) in grind (arith, nat_tests)) in
          let waits = h.waits.waiting r within (omega (arith, mark, on)) free in
          let here : min v (row_at s.rows r).ceiling ≡ v = omega (arith, reaches) in
          let has : 0 < slice_index levels (row_at s.rows r).authorizer =
          done waits.0 r (ap (λ w. slice_get (bucket_at buckets w) waits.0) (sym here) ∙ waits.1) in
          absurd (omega (arith, has, free))
    ]

-- the next lower level begins as this one ends
pub waits-down : (s : SystemEquations) (v : ℕ) (levels : List ℕ) (marks : List Bool) (buckets : List (List ℕ))
    → AreWaiting s v levels marks buckets
    → ((i r : ℕ) → slice_get (bucket_at buckets v) i ≡ Some r → 0 < slice_index levels (row_at s.rows r).authorizer)
    → AreWaiting s (v - 1) levels marks buckets
waits-down s v levels marks buckets h done = record {
  size = h.size;
  good = h.good;
  waiting = λ r within full none.
      let (i, e) = h.waiting r within full none in
      (elim (cases_lt (row_at s.rows r).ceiling v) [
        | inl lower ↦ let same : min v (row_at s.rows r).ceiling ≡ min (v - 1) (row_at s.rows r).ceiling =
            omega (arith, lower) in (i, ap (λ w. slice_get (bucket_at buckets w) i) (sym same) ∙ e)
        | inr high ↦
            let here : min v (row_at s.rows r).ceiling ≡ v = omega (arith, high) in
            let has : 0 < slice_index levels (row_at s.rows r).authorizer =
            done i r (ap (λ w. slice_get (bucket_at buckets w) i) (sym here) ∙ e) in
            absurd (omega (arith, has, none))
      ]);
}
