-- A well-formed system stays so as principals and rows are added.
use Rattle.std.proofs.Common.{◌≡◌, ℕ, zero, suc, ◌+◌, ◌<◌, ◌≤◌, ◌^◌, Bool, true, false, List, [], ◌∷◌, ◌++◌, All}
use Rattle.std.proofs.Common.{length}
use Rattle.std.proofs.Common.{slice_index_or, refl, arith}
use Rattle.std.proofs.lemmas.List.Elements.{All-head, All-push, All-tail, All-weaker}
use Rattle.kn_system.specs.declared.rows.Piece.{Piece}
use Rattle.kn_system.specs.declared.rows.Piece.TheVariants.{Who, Gate}
use Rattle.kn_system.specs.Rows.{SystemRow}
use Rattle.kn_system.specs.Equations.{IsSystemRow, IsSystem, node_total, leaf_total}
use Rattle.kn_system.specs.Form.{leaf_count}
use Rattle.kn_system.specs.Forms.{AreForms, IsFormula}
use Rattle.kn_system.specs.Nodes.{pieces_of}

AreForms-more : (p q : ℕ) → p ≤ q → (n : ℕ) (ps : List Piece) → AreForms p n ps → AreForms q n ps
AreForms-more p q l zero [] h = tt
AreForms-more p q l (suc n) [] h = absurd h
AreForms-more p q l zero (piece ∷ ps) h = absurd h
AreForms-more p q l (suc n) (Who i ∷ ps) h = (omega (arith, h.0), AreForms-more p q l n ps h.1)
AreForms-more p q l (suc n) (Gate k m ∷ ps) h = (h.0, AreForms-more p q l (n + m) ps h.1)

pub IsFormula-more : (p q : ℕ) → p ≤ q → (ps : List Piece) → IsFormula p ps → IsFormula q ps
IsFormula-more p q l ps h = record { one = AreForms-more p q l 1 ps h.one; shallow = h.shallow }

IsSystemRow-more : (levels n m : ℕ) → n ≤ m → (row : SystemRow) → IsSystemRow levels n row → IsSystemRow levels m row
IsSystemRow-more levels n m l row h = record {
  authorizer = omega (arith, h.authorizer);
  ceiling = h.ceiling;
  formula = IsFormula-more n m l row.formula h.formula;
}

-- with more principals
pub IsSystem-more_principals : (levels : ℕ) (before after : List Bool) (rows : List SystemRow)
    → length before ≤ length after → length after ≤ 2 ^ 24 → slice_index_or after 0 true ≡ false
    → IsSystem (record { levels = levels; requesters = before; rows = rows })
    → IsSystem (record { levels = levels; requesters = after; rows = rows })
IsSystem-more_principals levels before after rows more fit policy h = record {
  levels_fit = h.levels_fit;
  principals_fit = (omega (arith, h.principals_fit.0), fit);
  policy = policy;
  nodes_fit = h.nodes_fit;
  rows_fit = All-weaker (IsSystemRow levels (length before)) (IsSystemRow levels (length after))
      (IsSystemRow-more levels (length before) (length after) more) rows h.rows_fit;
}

pub node_total-push : (rows : List SystemRow) (row : SystemRow)
    → node_total (rows ++ row ∷ []) ≡ node_total rows + length row.formula
node_total-push [] row = omega arith
node_total-push (first ∷ rows) row = let rest = node_total-push rows row in omega arith

pub leaf_count-append : (ps qs : List Piece) → leaf_count (ps ++ qs) ≡ leaf_count ps + leaf_count qs
leaf_count-append [] qs = omega arith
leaf_count-append (Who p ∷ ps) qs = let rest = leaf_count-append ps qs in omega arith
leaf_count-append (Gate k m ∷ ps) qs = leaf_count-append ps qs

pub leaf_count-le : (ps : List Piece) → leaf_count ps ≤ length ps
leaf_count-le [] = omega arith
leaf_count-le (Who p ∷ ps) = let rest = leaf_count-le ps in omega arith
leaf_count-le (Gate k m ∷ ps) = let rest = leaf_count-le ps in omega arith

-- the principals in the formulas, one after another
pub leaf_count-pieces_of : (rows : List SystemRow) → leaf_count (pieces_of rows) ≡ leaf_total rows
leaf_count-pieces_of [] = refl
leaf_count-pieces_of (row ∷ rows) = let rest = leaf_count-pieces_of rows in
    omega (arith, leaf_count-append row.formula (pieces_of rows))

-- with one more row
pub IsSystem-more_rows : (levels : ℕ) (requesters : List Bool) (rows : List SystemRow) (row : SystemRow)
    → IsSystemRow levels (length requesters) row → node_total rows + length row.formula < 2 ^ 24
    → IsSystem (record { levels = levels; requesters = requesters; rows = rows })
    → IsSystem (record { levels = levels; requesters = requesters; rows = rows ++ row ∷ [] })
IsSystem-more_rows levels requesters rows row one fit h = record {
  levels_fit = h.levels_fit;
  principals_fit = h.principals_fit;
  policy = h.policy;
  nodes_fit = omega (arith, node_total-push rows row);
  rows_fit = All-push (IsSystemRow levels (length requesters)) rows row h.rows_fit one;
}

-- no row has more nodes than all together
pub node_total-ge : (rows : List SystemRow) (i : ℕ) (d : SystemRow) → i < length rows
    → length (slice_index_or rows i d).formula ≤ node_total rows
node_total-ge [] i d l = absurd (omega arith)
node_total-ge (row ∷ rows) zero d l = omega arith
node_total-ge (row ∷ rows) (suc i) d l = let rest = node_total-ge rows i d (omega arith) in omega arith

-- each row has a node
form_some : (p : ℕ) (ps : List Piece) → AreForms p 1 ps → 0 < length ps
form_some p [] h = absurd h
form_some p (x ∷ ps) h = omega arith

pub length-rows_le : (levels p : ℕ) (rows : List SystemRow) → All (IsSystemRow levels p) rows
    → length rows ≤ node_total rows
length-rows_le levels p [] h = omega arith
length-rows_le levels p (row ∷ rows) h =
    let first = form_some p row.formula (All-head (IsSystemRow levels p) row rows h).formula.one in
    let rest = length-rows_le levels p rows (All-tail (IsSystemRow levels p) row rows h) in
    omega (arith, first, rest)
