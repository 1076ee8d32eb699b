-- One more row among those that a system keeps.
use Rattle.std.proofs.Common.{◌≡◌, ℕ, zero, suc, ◌+◌, ◌<◌, ◌≤◌, List, [], ◌∷◌, ◌++◌, All, length, length-append}
use Rattle.std.proofs.Common.{replicate, take, drop, get_or, refl, sym, ap, ◌∙◌, subst, inl, inr, arith}
use Rattle.std.proofs.lemmas.List.{append_assoc, append-nil, take-append-le, take_all, length-map, get_or-map}
use Rattle.std.proofs.lemmas.List.{get_or_append_left, get_or_push, length-drop, length_push, length-replicate}
use Rattle.std.proofs.lemmas.List.{drop-append-le, map_push}
use Rattle.std.proofs.Math.Seq.{drop-append_seam}
use Rattle.std.proofs.lemmas.Bool.{cases_lt}
use Rattle.std.proofs.lemmas.List.Elements.{All-head, All-tail}
use Rattle.kn_system.specs.declared.nodes.Up.{Up}
use Rattle.kn_system.specs.declared.nodes.Up.TheVariants.{Node, Row}
use Rattle.kn_system.specs.declared.rows.Piece.{Piece}
use Rattle.kn_system.specs.declared.rows.Piece.TheVariants.{Who, Gate}
use Rattle.kn_system.specs.declared.rows.StoredRow.{StoredRow}
use Rattle.kn_system.specs.Equations.{IsSystemRow, node_total, row_at}
use Rattle.kn_system.specs.Forms.{AreForms}
use Rattle.kn_system.specs.KeptRows.{AreEndToEnd, AreKept, kept_row, kept_rows}
use Rattle.kn_system.specs.Nodes.{FlatNodes, pieces_of, row_ups, ups_of, ups_of_rows}
use Rattle.kn_system.specs.Rows.{SystemRow}

pub length-pieces_of : (rows : List SystemRow) → length (pieces_of rows) ≡ node_total rows
length-pieces_of [] = refl
length-pieces_of (row ∷ rows) = let rest = length-pieces_of rows in
    omega (arith, length-append row.formula (pieces_of rows))

pub pieces_of-push : (rows : List SystemRow) (row : SystemRow)
    → pieces_of (rows ++ row ∷ []) ≡ pieces_of rows ++ row.formula
pieces_of-push [] row = append-nil row.formula
pieces_of-push (r ∷ rows) row = ap (λ ps. r.formula ++ ps) (pieces_of-push rows row)
    ∙ sym (append_assoc r.formula (pieces_of rows) row.formula)

-- formulas, and further ones
pub forms-append : (p m n : ℕ) (ps qs : List Piece) → AreForms p m ps → AreForms p n qs → AreForms p (m + n) (ps ++ qs)
forms-append p zero n [] qs h k = let e : n ≡ zero + n = omega arith in subst (λ i. AreForms p i qs) e k
forms-append p (suc m) n [] qs h k = absurd h
forms-append p zero n (x ∷ ps) qs h k = absurd h
forms-append p (suc m) n (Who q ∷ ps) qs h k = let e : suc (m + n) ≡ suc m + n = omega arith in
    subst (λ i. AreForms p i (Who q ∷ ps ++ qs)) e (h.0, forms-append p m n ps qs h.1 k)
forms-append p (suc m) n (Gate l c ∷ ps) qs h k =
    let e : suc (m + n) ≡ suc m + n = omega arith in
    let f : m + c + n ≡ m + n + c = omega arith in
    subst (λ i. AreForms p i (Gate l c ∷ ps ++ qs)) e (
      h.0,
      subst (λ i. AreForms p i (ps ++ qs)) f (forms-append p (m + c) n ps qs h.1 k),
    )

-- the pieces of rows spell a formula for each
pub forms-pieces_of : (levels p : ℕ) (rows : List SystemRow) → All (IsSystemRow levels p) rows
    → AreForms p (length rows) (pieces_of rows)
forms-pieces_of levels p [] h = tt
forms-pieces_of levels p (row ∷ rows) h =
    let e : 1 + length rows ≡ suc (length rows) = omega arith in
    let first : IsSystemRow levels p row = All-head (IsSystemRow levels p) row rows h in
    subst (λ n. AreForms p n (row.formula ++ pieces_of rows)) e
    (forms-append p 1 (length rows) row.formula (pieces_of rows) first.formula.one
    (forms-pieces_of levels p rows (All-tail (IsSystemRow levels p) row rows h)))

-- what the nodes of formulas are parts of, and of further ones
pub ups-append : (p i : ℕ) (us vs : List Up) (ps qs : List Piece) → AreForms p (length us) ps
    → ups_of i (us ++ vs) (ps ++ qs) ≡ ups_of i us ps ++ ups_of (i + length ps) vs qs
ups-append p i [] vs [] qs h = let e : i ≡ i + 0 = omega arith in ap (λ n. ups_of n vs qs) e
ups-append p i (u ∷ us) vs [] qs h = absurd h
ups-append p i [] vs (x ∷ ps) qs h = absurd h
ups-append p i (u ∷ us) vs (Who q ∷ ps) qs h =
    let e : suc i + length ps ≡ i + suc (length ps) = omega arith in
    ap (λ ys. u ∷ ys) (ups-append p (suc i) us vs ps qs h.1 ∙ ap (λ n. ups_of (suc i) us ps ++ ups_of n vs qs) e)
ups-append p i (u ∷ us) vs (Gate k n ∷ ps) qs h =
    let e : suc i + length ps ≡ i + suc (length ps) = omega arith in
    let parts : List Up = replicate n (Node i) in
    let size : length us + n ≡ length (parts ++ us) =
    omega (arith, length-append parts us, length-replicate n (Node i)) in
    let forms : AreForms p (length (parts ++ us)) ps = subst (λ m. AreForms p m ps) size h.1 in
    ap (λ ys. u ∷ ys) (ap (λ ys. ups_of (suc i) ys (ps ++ qs)) (sym (append_assoc parts us vs))
    ∙ ups-append p (suc i) (parts ++ us) vs ps qs forms
    ∙ ap (λ m. ups_of (suc i) (parts ++ us) ps ++ ups_of m vs qs) e)

row_ups-push : (r n : ℕ) → row_ups r (suc n) ≡ row_ups r n ++ Row (r + n) ∷ []
row_ups-push r zero = let e : r ≡ r + 0 = omega arith in ap (λ m. Row m ∷ []) e
row_ups-push r (suc n) =
    let e : suc r + n ≡ r + suc n = omega arith in
    ap (λ us. Row r ∷ us) (row_ups-push (suc r) n ∙ ap (λ m. row_ups (suc r) n ++ Row m ∷ []) e)

pub length-row_ups : (r n : ℕ) → length (row_ups r n) ≡ n
length-row_ups r zero = refl
length-row_ups r (suc n) = ap suc (length-row_ups (suc r) n)

pub ups_of_rows-push : (levels p : ℕ) (rows : List SystemRow) (row : SystemRow) → All (IsSystemRow levels p) rows
    → ups_of_rows (rows ++ row ∷ []) ≡ ups_of_rows rows ++ ups_of (length (pieces_of rows)) (Row (length rows) ∷ [])
    row.formula
ups_of_rows-push levels p rows row h =
    let n : ℕ = length rows in
    let more : length (rows ++ row ∷ []) ≡ suc n = omega (arith, length_push rows row) in
    let z : 0 + n ≡ n = omega arith in
    let y : 0 + length (pieces_of rows) ≡ length (pieces_of rows) = omega arith in
    let ups : row_ups 0 (length (rows ++ row ∷ [])) ≡ row_ups 0 n ++ Row n ∷ [] = ap (row_ups 0) more ∙ row_ups-push 0 n
    ∙ ap (λ m. row_ups 0 n ++ Row m ∷ []) z in
    let forms : AreForms p (length (row_ups 0 n)) (pieces_of rows) =
    subst (λ m. AreForms p m (pieces_of rows)) (sym (length-row_ups 0 n)) (forms-pieces_of levels p rows h) in
    ap (λ us. ups_of 0 us (pieces_of (rows ++ row ∷ []))) ups
    ∙ ap (ups_of 0 (row_ups 0 n ++ Row n ∷ [])) (pieces_of-push rows row)
    ∙ ups-append p 0 (row_ups 0 n) (Row n ∷ []) (pieces_of rows) row.formula forms
    ∙ ap (λ m. ups_of_rows rows ++ ups_of m (Row n ∷ []) row.formula) y

kept-same : (ps qs : List Piece) (row : StoredRow) → row.start + row.size ≤ length ps
    → kept_row (ps ++ qs) row ≡ kept_row ps row
kept-same ps qs row l =
    let behind : drop row.start (ps ++ qs) ≡ drop row.start ps ++ qs = drop-append-le row.start ps qs (omega arith) in
    let size : row.size ≤ length (drop row.start ps) = omega (arith, length-drop row.start ps) in
    ap (λ (f : List Piece). record { authorizer = row.authorizer; ceiling = row.ceiling; formula = f })
    (ap (take row.size) behind ∙ take-append-le row.size (drop row.start ps) qs size)

pub kept-all : (ps qs : List Piece) (rows : List StoredRow)
    → All (λ (row : StoredRow). row.start + row.size ≤ length ps) rows → kept_rows (ps ++ qs) rows ≡ kept_rows ps rows
kept-all ps qs [] h = refl
kept-all ps qs (row ∷ rows) h =
    let first : row.start + row.size ≤ length ps =
    All-head (λ (r : StoredRow). r.start + r.size ≤ length ps) row rows h in
    let one : kept_row (ps ++ qs) row ≡ kept_row ps row = kept-same ps qs row first in
    let rest : kept_rows (ps ++ qs) rows ≡ kept_rows ps rows =
    kept-all ps qs rows (All-tail (λ (r : StoredRow). r.start + r.size ≤ length ps) row rows h) in
    ap (λ (r : SystemRow). r ∷ kept_rows (ps ++ qs) rows) one ∙ ap (λ rs. kept_row ps row ∷ rs) rest

kept-new : (ps qs : List Piece) (row : StoredRow) → row.start ≡ length ps → row.size ≡ length qs
    → kept_row (ps ++ qs) row ≡ record { authorizer = row.authorizer; ceiling = row.ceiling; formula = qs }
kept-new ps qs row s z =
    let behind : drop row.start (ps ++ qs) ≡ qs = ap (λ n. drop n (ps ++ qs)) s ∙ drop-append_seam ps qs in
    let all : take row.size qs ≡ qs = take_all row.size qs (omega (arith, z)) in
    ap (λ (f : List Piece). record { authorizer = row.authorizer; ceiling = row.ceiling; formula = f })
    (ap (take row.size) behind ∙ all)

inside-more : (n : ℕ) (rows : List StoredRow) (row : StoredRow) (m : ℕ)
    → All (λ (r : StoredRow). r.start + r.size ≤ n) rows → n ≤ m → row.start + row.size ≤ m
    → All (λ (r : StoredRow). r.start + r.size ≤ m) (rows ++ row ∷ [])
inside-more n rows row m h l here = λ i d within.
    elim (cases_lt i (length rows)) [
      | inl before ↦
          let old : (get_or rows i d).start + (get_or rows i d).size ≤ n = h i d before in
          let same : get_or (rows ++ row ∷ []) i d ≡ get_or rows i d = get_or_append_left rows (row ∷ []) d i before in
          subst (λ (r : StoredRow). r.start + r.size ≤ m) (sym same) (omega arith)
      | inr past ↦
          let last : length rows ≡ i = omega (arith, length_push rows row) in
          subst (λ (r : StoredRow). r.start + r.size ≤ m) (sym (get_or_push rows row d i last)) here
    ]

-- a row behind those that stand end to end
end-more : (start : ℕ) (rows : List StoredRow) (row : StoredRow) (end after : ℕ) → AreEndToEnd start rows end
    → row.start ≡ end → end + row.size ≡ after → AreEndToEnd start (rows ++ row ∷ []) after
end-more start [] row end after h begins ends = (begins ∙ sym h, omega (arith, h, ends))
end-more start (r ∷ rows) row end after h begins ends =
    (h.0, end-more (start + r.size) rows row end after h.1 begins ends)

-- a row that is kept, as what it says
pub row_kept : (pieces : List Piece) (kept : List StoredRow) (rows : List SystemRow) (i : ℕ) (d : StoredRow)
    → kept_rows pieces kept ≡ rows → i < length rows → kept_row pieces (get_or kept i d) ≡ row_at rows i
row_kept pieces kept rows i d e l =
    let size : length kept ≡ length rows = sym (simp length-map) ∙ ap length e in
    sym (get_or-map (kept_row pieces) kept i d (record { authorizer = 0; ceiling = 0; formula = [] }) (omega arith))
    ∙ ap (λ rs. row_at rs i) e

-- the row that was added, and all rows after it
pub record IsKeptMore (rows : List StoredRow) (flat new : FlatNodes) (row : StoredRow) (formula : List Piece) :
    Type 0 where
  pub kept : AreKept (rows ++ row ∷ []) new
  pub pushed : kept_rows new.pieces (rows ++ row ∷ []) ≡ kept_rows flat.pieces rows
      ++ (record { authorizer = row.authorizer; ceiling = row.ceiling; formula = formula }) ∷ []

pub kept_more : (levels p : ℕ) (rows : List StoredRow) (flat new : FlatNodes) (row : StoredRow) (formula : List Piece)
    → All (IsSystemRow levels p) (kept_rows flat.pieces rows) → AreKept rows flat
    → row.start ≡ length flat.pieces → row.size ≡ length formula → new.pieces ≡ flat.pieces ++ formula
    → new.ups ≡ flat.ups ++ ups_of (length flat.pieces) (Row (length rows) ∷ []) formula
    → IsKeptMore rows flat new row formula
kept_more levels p rows flat new row formula fit kept starts sized added linked =
    let old : List SystemRow = kept_rows flat.pieces rows in
    let last : SystemRow = record { authorizer = row.authorizer; ceiling = row.ceiling; formula = formula } in
    let size : length new.pieces ≡ length flat.pieces + length formula = ap length added
    ∙ length-append flat.pieces formula in
    let pushed : kept_rows new.pieces (rows ++ row ∷ []) ≡ old ++ last ∷ [] =
    ap (λ ps. kept_rows ps (rows ++ row ∷ [])) added ∙ map_push (kept_row (flat.pieces ++ formula)) rows row
    ∙ ap (λ rs. rs ++ kept_row (flat.pieces ++ formula) row ∷ []) (kept-all flat.pieces formula rows kept.inside)
    ∙ ap (λ (r : SystemRow). old ++ r ∷ []) (kept-new flat.pieces formula row starts sized) in
    let count : length old ≡ length rows = simp length-map in
    record {
      pushed = pushed;
      kept = record {
        inside = inside-more (length flat.pieces) rows row (length new.pieces) kept.inside (omega arith)
            (omega (arith, starts, sized));
        end_to_end = end-more 0 rows row (length flat.pieces) (length new.pieces) kept.end_to_end starts
            (omega (arith, size, sized));
        pieces = ap pieces_of pushed ∙ pieces_of-push old last ∙ ap (λ ps. ps ++ formula) kept.pieces ∙ sym added;
        ups =
            ap ups_of_rows pushed ∙ ups_of_rows-push levels p old last fit
            ∙ ap (λ us. us ++ ups_of (length (pieces_of old)) (Row (length old) ∷ []) formula) kept.ups
            ∙ ap (λ n. flat.ups ++ ups_of n (Row (length old) ∷ []) formula) (ap length kept.pieces)
            ∙ ap (λ n. flat.ups ++ ups_of (length flat.pieces) (Row n ∷ []) formula) count ∙ sym linked;
      };
    }
