-- What a system's rows say when one is read and its formula evaluated.
use Rattle.std.proofs.Common.{◌≡◌, ℕ, suc, ◌<◌, ◌≤◌, ◌^◌, List, [], ◌∷◌, length, drop, refl, sym, ap}
use Rattle.std.proofs.Common.{subst, arith}
use Rattle.std.proofs.lemmas.List.{length-drop}
use Rattle.kn_system.specs.declared.rows.Piece.{Piece}
use Rattle.kn_system.specs.declared.rows.Piece.TheVariants.{Who, Gate}
use Rattle.kn_system.specs.Equations.{SystemEquations, IsSystemRow, IsSystem, row_at, node_total}
use Rattle.kn_system.specs.Form.{form_levels}
use Rattle.kn_system.specs.Forms.{AreForms, AreSpelt, form_count}
use Rattle.kn_system.proofs.FormulasBehind.{forms-spelt, form_count-forms, length-form_levels}
use Rattle.kn_system.proofs.AddedRows.{node_total-ge}

-- no formula is empty
form_count-none : (ps : List Piece) → form_count ps ≡ 0 → length ps ≡ 0
form_count-none [] e = refl
form_count-none (Who p ∷ ps) e = absurd (omega arith)
form_count-none (Gate k n ∷ ps) e = absurd (omega arith)

some_pieces : (ps : List Piece) → form_count ps ≡ 1 → 0 < length ps
some_pieces [] e = absurd (omega arith)
some_pieces (p ∷ ps) e = omega arith

-- the pieces of one formula over the principals, few enough to count
pub record IsRead (principals : ℕ) (pieces : List Piece) : Type 0 where
  pub few : length pieces < 2 ^ 24
  pub spelt : AreSpelt principals pieces
  pub some : 0 < length pieces
  pub one : form_count pieces ≡ 1

pub pieces_read : (s : SystemEquations) (i : ℕ) (pieces : List Piece) (values : List ℕ) → IsSystem s → i < length s.rows
    → length values ≡ length s.requesters → pieces ≡ (row_at s.rows i).formula
    → IsRead (length values) pieces
pieces_read s i pieces values fits l each e =
    let row : IsSystemRow s.levels (length s.requesters) (row_at s.rows i) =
    fits.rows_fit i (record { authorizer = 0; ceiling = 0; formula = [] }) l in
    let few : length (row_at s.rows i).formula ≤ node_total s.rows =
    node_total-ge s.rows i (record { authorizer = 0; ceiling = 0; formula = [] }) l in
    let here : AreForms (length s.requesters) 1 pieces =
    subst (AreForms (length s.requesters) 1) (sym e) row.formula.one in
    let forms : AreForms (length values) 1 pieces = subst (λ n. AreForms n 1 pieces) (sym each) here in
    let one : form_count pieces ≡ 1 = form_count-forms (length values) 1 pieces forms in
    record {
      few = omega (arith, fits.nodes_fit, ap length e);
      spelt = forms-spelt (length values) 1 pieces forms;
      some = some_pieces pieces one;
      one = one;
    }

-- where one formula was read, no piece stands behind it
pub behind_one : (top level next : ℕ) (xs : List ℕ) (ps : List Piece) → form_count ps ≡ 1 → next ≤ length ps
    → form_levels top xs ps ≡ level ∷ form_levels top xs (drop next ps) → next ≡ length ps
behind_one top level next xs ps one inside e =
    let all : length (form_levels top xs ps) ≡ suc (length (form_levels top xs (drop next ps))) = ap length e in
    let size : length (form_levels top xs ps) ≡ form_count ps = length-form_levels top xs ps in
    let rest : length (form_levels top xs (drop next ps)) ≡ form_count (drop next ps) =
    length-form_levels top xs (drop next ps) in
    let none : length (drop next ps) ≡ 0 = form_count-none (drop next ps) (omega arith) in
    omega (arith, length-drop next ps)
