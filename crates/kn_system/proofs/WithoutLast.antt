-- What a system is without its last row, and without its last principal.
use Rattle.std.proofs.Common.{◌≡◌, ℕ, suc, ◌+◌, ◌-◌, ◌<◌, ◌≤◌, Bool, false, List, [], ◌∷◌, ◌++◌, All}
use Rattle.std.proofs.Common.{length, length-append, replicate, take, drop, Option, None, Some, refl, sym, ap, ◌∙◌}
use Rattle.std.proofs.Common.{subst, arith}
use Rattle.std.specs.Prelude.{MatchOption}
use Rattle.std.proofs.lemmas.List.{take-append-le, take_all, length-take, length-drop, length_push}
use Rattle.std.proofs.lemmas.List.{length-replicate, map_push}
use Rattle.std.proofs.lemmas.List.Elements.{All-cons, All-nil, All-take, All-weaker}
use Rattle.kn_system.specs.declared.nodes.Up.{Up}
use Rattle.kn_system.specs.declared.nodes.Up.TheVariants.{Node, Row}
use Rattle.kn_system.specs.declared.rows.Piece.{Piece}
use Rattle.kn_system.specs.declared.rows.Piece.TheVariants.{Who, Gate}
use Rattle.kn_system.specs.declared.rows.StoredRow.{StoredRow}
use Rattle.kn_system.specs.Equations.{IsRowOver, IsSystem, IsSystemRow}
use Rattle.kn_system.specs.Forms.{AreForms}
use Rattle.kn_system.specs.KeptRows.{AreEndToEnd, AreKept, kept_row, kept_rows}
use Rattle.kn_system.specs.Nodes.{FlatNodes, pieces_of, row_ups, ups_of, ups_of_rows}
use Rattle.kn_system.specs.Rows.{SystemRow}
use Rattle.kn_system.proofs.AddedRows.{IsFormula-more, node_total-push}
use Rattle.kn_system.proofs.KeptRows.{forms-pieces_of, kept-all, length-row_ups, pieces_of-push, ups_of_rows-push}

-- all but the last of a list
pub take-init : {X : Type 0} (xs : List X) (x : X) → take (length xs) (xs ++ x ∷ []) ≡ xs
take-init xs x = take-append-le (length xs) xs (x ∷ []) (omega arith) ∙ take_all (length xs) xs (omega arith)

pub take-popped : {X : Type 0} (xs : List X) (x : X) → take (length (xs ++ x ∷ []) - 1) (xs ++ x ∷ []) ≡ xs
take-popped xs x =
    let size : length (xs ++ x ∷ []) - 1 ≡ length xs = omega (arith, length_push xs x) in
    ap (λ n. take n (xs ++ x ∷ [])) size ∙ take-init xs x

pub All-init : {X : Type 0} (P : X → Type 0) (xs : List X) (x : X) → All P (xs ++ x ∷ []) → All P xs
All-init P xs x h = subst (All P) (take-init xs x) (All-take P (length xs) (xs ++ x ∷ []) h)

-- rows that stand end to end are inside
end-inside : (start : ℕ) (rows : List StoredRow) (end : ℕ) → AreEndToEnd start rows end → (start ≤ end)
    × All (λ (row : StoredRow). row.start + row.size ≤ end) rows
end-inside start [] end h = (omega (arith, h), All-nil (λ (row : StoredRow). row.start + row.size ≤ end))
end-inside start (row ∷ rows) end h =
    let rest = end-inside (start + row.size) rows end h.1 in (
      omega (arith, rest.0),
      All-cons (λ (r : StoredRow). r.start + r.size ≤ end) row rows (omega (arith, h.0, rest.0)) rest.1,
    )

-- and all but the last one stand so too
end-init : (start : ℕ) (rows : List StoredRow) (last : StoredRow) (end : ℕ) → AreEndToEnd start (rows ++ last ∷ []) end
    → AreEndToEnd start rows last.start × (last.start + last.size ≡ end)
end-init start [] last end h = (sym h.0, omega (arith, h.0, h.1))
end-init start (row ∷ rows) last end h = let rest = end-init (start + row.size) rows last end h.1 in
    ((h.0, rest.0), rest.1)

-- each node is a part of something
length-ups_of : (p i : ℕ) (us : List Up) (ps : List Piece) → AreForms p (length us) ps
    → length (ups_of i us ps) ≡ length ps
length-ups_of p i [] [] h = refl
length-ups_of p i (u ∷ us) [] h = absurd h
length-ups_of p i [] (x ∷ ps) h = absurd h
length-ups_of p i (u ∷ us) (Who q ∷ ps) h = ap suc (length-ups_of p (suc i) us ps h.1)
length-ups_of p i (u ∷ us) (Gate k n ∷ ps) h =
    let parts : List Up = replicate n (Node i) in
    let size : length us + n ≡ length (parts ++ us) =
    omega (arith, length-append parts us, length-replicate n (Node i)) in
    ap suc (length-ups_of p (suc i) (parts ++ us) ps (subst (λ m. AreForms p m ps) size h.1))

length-ups_of_rows : (levels p : ℕ) (rows : List SystemRow) → All (IsSystemRow levels p) rows
    → length (ups_of_rows rows) ≡ length (pieces_of rows)
length-ups_of_rows levels p rows h =
    length-ups_of p 0 (row_ups 0 (length rows)) (pieces_of rows)
    (subst (λ m. AreForms p m (pieces_of rows)) (sym (length-row_ups 0 (length rows)))
    (forms-pieces_of levels p rows h))

-- what is left of two lists after one another
take-first : {X : Type 0} (n : ℕ) (all xs ys : List X) → all ≡ xs ++ ys → length xs ≡ n → take n all ≡ xs
take-first n all xs ys split size =
    ap (take n) split ∙ take-append-le n xs ys (omega (arith, size)) ∙ take_all n xs (omega (arith, size))

-- the rows before the last, and their nodes
pub record IsKeptLess (rows : List StoredRow) (last : StoredRow) (flat new : FlatNodes) : Type 0 where
  pub kept : AreKept rows new
  pub popped : kept_rows flat.pieces (rows ++ last ∷ []) ≡ kept_rows new.pieces rows ++ kept_row flat.pieces last ∷ []

pub kept_less : (levels p : ℕ) (rows : List StoredRow) (last : StoredRow) (flat new : FlatNodes)
    → All (IsSystemRow levels p) (kept_rows flat.pieces (rows ++ last ∷ [])) → AreKept (rows ++ last ∷ []) flat
    → new.pieces ≡ take last.start flat.pieces → new.ups ≡ take last.start flat.ups → IsKeptLess rows last flat new
kept_less levels p rows last flat new fit kept pieces_left ups_left =
    let old : List SystemRow = kept_rows flat.pieces rows in
    let row : SystemRow = kept_row flat.pieces last in
    let front : List Piece = pieces_of old in
    let whole : kept_rows flat.pieces (rows ++ last ∷ []) ≡ old ++ row ∷ [] =
    map_push (kept_row flat.pieces) rows last in
    let (ends, full) = end-init 0 rows last (length flat.pieces) kept.end_to_end in
    let split : flat.pieces ≡ front ++ row.formula = sym kept.pieces ∙ ap pieces_of whole ∙ pieces_of-push old row in
    let size : length row.formula ≡ last.size =
    omega (arith, length-take last.size (drop last.start flat.pieces), length-drop last.start flat.pieces, full) in
    let begun : length front ≡ last.start =
    omega (arith, ap length split, length-append front row.formula, size, full) in
    let left : new.pieces ≡ front = pieces_left ∙ take-first last.start flat.pieces front row.formula split begun in
    let inside : All (λ (r : StoredRow). r.start + r.size ≤ length front) rows =
    subst (λ n. All (λ (r : StoredRow). r.start + r.size ≤ n) rows) (sym begun)
    (end-inside 0 rows last.start ends).1 in
    let same : kept_rows new.pieces rows ≡ old =
    ap (λ ps. kept_rows ps rows) left ∙ sym (kept-all front row.formula rows inside)
    ∙ ap (λ ps. kept_rows ps rows) (sym split) in
    let fits : All (IsSystemRow levels p) old =
    All-init (IsSystemRow levels p) old row (subst (All (IsSystemRow levels p)) whole fit) in
    let ups : flat.ups ≡ ups_of_rows old ++ ups_of (length front) (Row (length old) ∷ []) row.formula =
    sym kept.ups ∙ ap ups_of_rows whole ∙ ups_of_rows-push levels p old row fits in
    let linked : new.ups ≡ ups_of_rows old =
    ups_left ∙ take-first last.start flat.ups (ups_of_rows old)
    (ups_of (length front) (Row (length old) ∷ []) row.formula) ups (length-ups_of_rows levels p old fits
    ∙ begun) in
    record {
      kept = record {
        inside = subst (λ ps. All (λ (r : StoredRow). r.start + r.size ≤ length ps) rows) (sym left) inside;
        end_to_end = subst (AreEndToEnd 0 rows) (sym begun ∙ ap length (sym left)) ends;
        pieces = ap pieces_of same ∙ sym left;
        ups = ap ups_of_rows same ∙ sym linked;
      };
      popped = whole ∙ ap (λ (rs : List SystemRow). rs ++ row ∷ []) (sym same);
    }

-- where the last row ends
pub last_ends : (rows all : List StoredRow) (last : StoredRow) (flat : FlatNodes) → all ≡ rows ++ last ∷ []
    → AreKept all flat → last.start + last.size ≡ length flat.pieces
last_ends rows all last flat e kept =
    (end-init 0 rows last (length flat.pieces)
    (subst (λ (rs : List StoredRow). AreEndToEnd 0 rs (length flat.pieces)) e kept.end_to_end)).1

pub popped_less : (levels p : ℕ) (rows all : List StoredRow) (last : StoredRow) (flat new : FlatNodes)
    → all ≡ rows ++ last ∷ [] → All (IsSystemRow levels p) (kept_rows flat.pieces all) → AreKept all flat
    → new.pieces ≡ take last.start flat.pieces → new.ups ≡ take last.start flat.ups → IsKeptLess rows last flat new
popped_less levels p rows all last flat new e fit kept pieces_left ups_left =
    kept_less levels p rows last flat new
    (subst (λ (rs : List StoredRow). All (IsSystemRow levels p) (kept_rows flat.pieces rs)) e fit)
    (subst (λ (rs : List StoredRow). AreKept rs flat) e kept) pieces_left ups_left

-- the last of some
pub popped_last : (old new : List Bool) (popped : Option Bool)
    → MatchOption popped ((old ≡ []) × (new ≡ [])) (λ last. old ≡ new ++ last ∷ []) → 0 < length old → (last : Bool)
    × (old ≡ new ++ last ∷ [])
popped_last old new None h some = absurd (omega (arith, some, ap length h.0))
popped_last old new (Some last) h some = (last, h)

-- a system without its last row
pub IsSystem-less_rows : (levels : ℕ) (requesters : List Bool) (rows : List SystemRow) (row : SystemRow)
    → IsSystem (record { levels = levels; requesters = requesters; rows = rows ++ row ∷ [] })
    → IsSystem (record { levels = levels; requesters = requesters; rows = rows })
IsSystem-less_rows levels requesters rows row h = record {
  levels_fit = h.levels_fit;
  principals_fit = h.principals_fit;
  policy = h.policy;
  nodes_fit = omega (arith, node_total-push rows row, h.nodes_fit);
  rows_fit = All-init (IsSystemRow levels (length requesters)) rows row h.rows_fit;
}

both : {X : Type 0} (P Q R : X → Type 0) → ((x : X) → P x → Q x → R x) → (xs : List X) → All P xs → All Q xs → All R xs
both P Q R f xs h k = λ i d within. f _ (h i d within) (k i d within)

-- a system without principals whom no row names
pub IsSystem-less_principals : (levels : ℕ) (before after : List Bool) (rows : List SystemRow)
    → length after ≤ length before → All (IsRowOver (length (false ∷ after))) rows
    → IsSystem (record { levels = levels; requesters = false ∷ before; rows = rows })
    → IsSystem (record { levels = levels; requesters = false ∷ after; rows = rows })
IsSystem-less_principals levels before after rows less over h = record {
  levels_fit = h.levels_fit;
  principals_fit = (omega arith, omega (arith, less, h.principals_fit.1));
  policy = refl;
  nodes_fit = h.nodes_fit;
  rows_fit = both (IsSystemRow levels (length (false ∷ before))) (IsRowOver (length (false ∷ after)))
      (IsSystemRow levels (length (false ∷ after)))
      (λ row fits those. record { authorizer = those.authorizer; ceiling = fits.ceiling; formula = those.formula }) rows
      h.rows_fit over;
}

-- rows over some principals are rows over more
pub over-more : (p q : ℕ) → p ≤ q → (rows : List SystemRow) → All (IsRowOver p) rows → All (IsRowOver q) rows
over-more p q more rows h = All-weaker (IsRowOver p) (IsRowOver q)
    (λ row over. record {
      authorizer = omega (arith, over.authorizer, more);
      formula =
          IsFormula-more p q more row.formula over.formula;
    }) rows h
