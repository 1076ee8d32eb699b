-- A system where a row has another ceiling: it keeps the same nodes.
use Rattle.std.proofs.Common.{◌≡◌, ℕ, zero, suc, ◌+◌, ◌<◌, ◌≤◌, Bool, List, [], ◌∷◌, ◌++◌, All, length, get_or}
use Rattle.std.proofs.Common.{slice_set, refl, sym, ap, ◌∙◌, subst, arith}
use Rattle.std.proofs.lemmas.List.{length-map, length-set, map-set}
use Rattle.std.proofs.lemmas.List.Elements.{All-set}
use Rattle.kn_system.specs.declared.rows.Piece.{Piece}
use Rattle.kn_system.specs.declared.rows.StoredRow.{StoredRow}
use Rattle.kn_system.specs.Equations.{IsSystem, IsSystemRow, node_total, with_row_ceiling, row_at}
use Rattle.kn_system.specs.KeptRows.{AreEndToEnd, AreKept, kept_row, kept_rows}
use Rattle.kn_system.specs.Nodes.{FlatNodes, pieces_of, row_ups, ups_of, ups_of_rows}
use Rattle.kn_system.specs.Rows.{SystemRow}
use Rattle.kn_system.proofs.KeptRows.{row_kept}

pub pieces-recapped : (rows : List SystemRow) (i ceiling : ℕ)
    → pieces_of (with_row_ceiling rows i ceiling) ≡ pieces_of rows
pieces-recapped [] i ceiling = refl
pieces-recapped (row ∷ rows) zero ceiling = refl
pieces-recapped (row ∷ rows) (suc i) ceiling = ap (λ ps. row.formula ++ ps) (pieces-recapped rows i ceiling)

pub nodes-recapped : (rows : List SystemRow) (i ceiling : ℕ)
    → node_total (with_row_ceiling rows i ceiling) ≡ node_total rows
nodes-recapped [] i ceiling = refl
nodes-recapped (row ∷ rows) zero ceiling = refl
nodes-recapped (row ∷ rows) (suc i) ceiling = ap (λ n. length row.formula + n) (nodes-recapped rows i ceiling)

ups-recapped : (rows : List SystemRow) (i ceiling : ℕ)
    → ups_of_rows (with_row_ceiling rows i ceiling) ≡ ups_of_rows rows
ups-recapped rows i ceiling =
    let row : SystemRow =
    record { authorizer = (row_at rows i).authorizer; ceiling = ceiling; formula = (row_at rows i).formula } in
    ap (λ n. ups_of 0 (row_ups 0 n) (pieces_of (with_row_ceiling rows i ceiling))) (length-set rows i row)
    ∙ ap (ups_of 0 (row_ups 0 (length rows))) (pieces-recapped rows i ceiling)

-- the row as it is kept, with another ceiling
abbrev pub stored_with : StoredRow → ℕ → StoredRow
stored_with row ceiling = record { authorizer = row.authorizer; ceiling = ceiling; start = row.start; size = row.size }

pub kept-recapped : (pieces : List Piece) (rows : List StoredRow) (i ceiling : ℕ) (d : StoredRow) → i < length rows
    → kept_rows pieces (slice_set rows i (stored_with (get_or rows i d) ceiling))
    ≡ with_row_ceiling (kept_rows pieces rows) i ceiling
kept-recapped pieces rows i ceiling d within =
    let row : SystemRow = kept_row pieces (get_or rows i d) in
    let count : length (kept_rows pieces rows) ≡ length rows = simp length-map in
    let size : i < length (kept_rows pieces rows) = omega arith in
    let here : row ≡ row_at (kept_rows pieces rows) i = row_kept pieces rows (kept_rows pieces rows) i d refl size in
    map-set (kept_row pieces) rows i (stored_with (get_or rows i d) ceiling)
    ∙ ap (λ (r : SystemRow). slice_set (kept_rows pieces rows) i
    (record { authorizer = r.authorizer; ceiling = ceiling; formula = r.formula })) here

end-recapped : (start : ℕ) (rows : List StoredRow) (i ceiling : ℕ) (d : StoredRow) (end : ℕ)
    → AreEndToEnd start rows end → AreEndToEnd start (slice_set rows i (stored_with (get_or rows i d) ceiling)) end
end-recapped start [] i ceiling d end h = h
end-recapped start (row ∷ rows) zero ceiling d end h = h
end-recapped start (row ∷ rows) (suc i) ceiling d end h =
    (h.0, end-recapped (start + row.size) rows i ceiling d end h.1)

-- all that a system keeps
pub record IsRecapped (levels : ℕ) (requesters : List Bool) (rows new : List StoredRow) (flat : FlatNodes)
    (i ceiling : ℕ) : Type 0 where
  pub kept : AreKept new flat
  pub same : kept_rows flat.pieces new ≡ with_row_ceiling (kept_rows flat.pieces rows) i ceiling
  pub fits : IsSystem (record { levels = levels; requesters = requesters; rows = kept_rows flat.pieces new })

pub is_recapped : (levels : ℕ) (requesters : List Bool) (rows new : List StoredRow) (flat : FlatNodes) (i ceiling : ℕ)
    (d : StoredRow) → i < length rows → ceiling < levels
    → new ≡ slice_set rows i (stored_with (get_or rows i d) ceiling)
    → IsSystem (record { levels = levels; requesters = requesters; rows = kept_rows flat.pieces rows })
    → AreKept rows flat → IsRecapped levels requesters rows new flat i ceiling
is_recapped levels requesters rows new flat i ceiling d within low e fits kept =
    let old : List SystemRow = kept_rows flat.pieces rows in
    let stored : StoredRow = get_or rows i d in
    let same : kept_rows flat.pieces new ≡ with_row_ceiling old i ceiling = ap (kept_rows flat.pieces) e
    ∙ kept-recapped flat.pieces rows i ceiling d within in
    let count : length old ≡ length rows = simp length-map in
    let size : i < length old = omega arith in
    let row : IsSystemRow levels (length requesters) (row_at old i) =
    fits.rows_fit i (record { authorizer = 0; ceiling = 0; formula = [] }) size in
    let capped : SystemRow =
    record { authorizer = (row_at old i).authorizer; ceiling = ceiling; formula = (row_at old i).formula } in
    record {
      kept = record {
        inside = subst (All (λ (r : StoredRow). r.start + r.size ≤ length flat.pieces)) (sym e)
            (All-set (λ (r : StoredRow). r.start + r.size ≤ length flat.pieces) rows i (stored_with stored ceiling)
            (kept.inside i d within) kept.inside);
        end_to_end = subst (λ (rs : List StoredRow). AreEndToEnd 0 rs (length flat.pieces)) (sym e)
            (end-recapped 0 rows i ceiling d (length flat.pieces) kept.end_to_end);
        pieces = ap pieces_of same ∙ pieces-recapped old i ceiling ∙ kept.pieces;
        ups = ap ups_of_rows same ∙ ups-recapped old i ceiling ∙ kept.ups;
      };
      same = same;
      fits = subst (λ (rs : List SystemRow). IsSystem (record { levels = levels; requesters = requesters; rows = rs }))
          (sym same) (record {
            levels_fit = fits.levels_fit;
            principals_fit = fits.principals_fit;
            policy = fits.policy;
            nodes_fit = omega (arith, nodes-recapped old i ceiling, fits.nodes_fit);
            rows_fit = All-set (IsSystemRow levels (length requesters)) old i capped
                (record { authorizer = row.authorizer; ceiling = low; formula = row.formula }) fits.rows_fit;
          });
    }
