use Rattle.std.proofs.Common.{◌≡◌, ◌+◌, ◌<◌, ◌^◌, [], ◌∷◌, ◌++◌, false, length, ap, sym, ◌∙◌, subst, List, arith}
use Rattle.std.proofs.lemmas.List.{length-map}
use Rattle.kn_system.specs.declared.nodes.Up.TheVariants.{Row}
use Rattle.kn_system.specs.declared.rows.Piece.{Piece}
use Rattle.kn_system.specs.declared.rows.StoredRow.{StoredRow}
use Rattle.kn_system.specs.Rows.{SystemRow}
use Rattle.kn_system.specs.Equations.{SystemEquations, IsSystemRow, node_total}
use Rattle.kn_system.specs.KeptRows.{kept_rows}
use Rattle.kn_system.specs.Nodes.{ups_of}
use Rattle.kn_system.proofs.AddedRows.{IsSystem-more_rows, length-rows_le}
use Rattle.kn_system.proofs.KeptRows.{IsKeptMore, length-pieces_of, kept_more}
use Rattle.kn_system.proofs.system.System.push_row.Goals as goal

pub add-requires-clause-few : goal.add-requires-clause-few
add-requires-clause-few g c =
    let s = c.self.inside in
    let size = ap length (sym c.self.invariant.1.pieces) ∙ length-pieces_of (kept_rows s.flat.pieces s.rows)
    ∙ ap (λ (e : SystemEquations). node_total e.rows) c.self.view_is in
    omega (arith, size, c.requires.nodes_fit, ap length c.as_slice.ensures)

pub add-requires-clause-row : goal.add-requires-clause-row
add-requires-clause-row g c =
    let s = c.self.inside in
    let count : length (kept_rows s.flat.pieces s.rows) ≡ length s.rows = simp length-map in
    omega (
      arith,
      c.len-number.ensures,
      count,
      length-rows_le s.levels (length (false ∷ s.others)) (kept_rows s.flat.pieces s.rows)
          c.self.invariant.0.rows_fit,
      c.self.invariant.0.nodes_fit,
    )

pub invariant_of-self-in-Ok : goal.invariant_of-self-in-Ok
invariant_of-self-in-Ok g c =
    let s = c.self.inside in
    let rows : List SystemRow = kept_rows s.flat.pieces s.rows in
    let row : SystemRow =
    record { authorizer = c.args.authorizer; ceiling = c.args.ceiling; formula = c.args.formula.now } in
    let stored : StoredRow =
    record {
      authorizer = c.args.authorizer;
      ceiling = c.args.ceiling;
      start = c.len-start.result;
      size =
          c.len.result;
    } in
    let pieces : c.add.new.self.pieces ≡ s.flat.pieces ++ c.args.formula.now = c.in_ok-add.ensures.pieces
    ∙ ap (λ (ps : List Piece). s.flat.pieces ++ ps) c.as_slice.ensures in
    let ups : c.add.new.self.ups ≡ s.flat.ups ++ ups_of (length s.flat.pieces) (Row (length s.rows) ∷ [])
    c.args.formula.now =
    c.in_ok-add.ensures.ups
    ∙ ap (λ (ps : List Piece). s.flat.ups ++ ups_of (length s.flat.pieces) (Row c.len-number.result ∷ []) ps)
    c.as_slice.ensures
    ∙ ap (λ n. s.flat.ups ++ ups_of (length s.flat.pieces) (Row n ∷ []) c.args.formula.now) c.len-number.ensures in
    let more : IsKeptMore s.rows s.flat c.add.new.self stored c.args.formula.now =
    kept_more s.levels (length (false ∷ s.others)) s.rows s.flat c.add.new.self stored c.args.formula.now
    c.self.invariant.0.rows_fit c.self.invariant.1 c.len-start.ensures.nodes c.len.ensures pieces ups in
    let asked : IsSystemRow c.args.self.now.levels (length c.args.self.now.requesters) row =
    record {
      authorizer = c.requires.authorizer_in_range;
      ceiling = c.requires.ceiling_in_range;
      formula =
          c.requires.one_formula;
    } in
    let here = subst (λ (e : SystemEquations). IsSystemRow e.levels (length e.requesters) row) (sym c.self.view_is)
    asked in
    let seen = ap (λ (e : SystemEquations). node_total e.rows) c.self.view_is in
    let fit : node_total rows + length row.formula < 2 ^ 24 = omega (arith, seen, c.requires.nodes_fit) in
    let fits = IsSystem-more_rows s.levels (false ∷ s.others) rows row here fit c.self.invariant.0 in
    let seen_so : kept_rows c.add.new.self.pieces c.push.new.self ≡ rows ++ row ∷ [] =
    ap (kept_rows c.add.new.self.pieces) c.in-Ok.ensures.ok ∙ more.pushed in
    rw seen_so (fits, rw c.in-Ok.ensures.ok more.kept)

pub returns-in-Ok-clause-ok : goal.returns-in-Ok-clause-ok
returns-in-Ok-clause-ok g c =
    let s = c.self.inside in
    let row : SystemRow =
    record { authorizer = c.args.authorizer; ceiling = c.args.ceiling; formula = c.args.formula.now } in
    let stored : StoredRow =
    record {
      authorizer = c.args.authorizer;
      ceiling = c.args.ceiling;
      start = c.len-start.result;
      size =
          c.len.result;
    } in
    let pieces : c.add.new.self.pieces ≡ s.flat.pieces ++ c.args.formula.now = c.in_ok-add.ensures.pieces
    ∙ ap (λ (ps : List Piece). s.flat.pieces ++ ps) c.as_slice.ensures in
    let ups : c.add.new.self.ups ≡ s.flat.ups ++ ups_of (length s.flat.pieces) (Row (length s.rows) ∷ [])
    c.args.formula.now =
    c.in_ok-add.ensures.ups
    ∙ ap (λ (ps : List Piece). s.flat.ups ++ ups_of (length s.flat.pieces) (Row c.len-number.result ∷ []) ps)
    c.as_slice.ensures
    ∙ ap (λ n. s.flat.ups ++ ups_of (length s.flat.pieces) (Row n ∷ []) c.args.formula.now) c.len-number.ensures in
    let more : IsKeptMore s.rows s.flat c.add.new.self stored c.args.formula.now =
    kept_more s.levels (length (false ∷ s.others)) s.rows s.flat c.add.new.self stored c.args.formula.now
    c.self.invariant.0.rows_fit c.self.invariant.1 c.len-start.ensures.nodes c.len.ensures pieces ups in
    let seen_so : kept_rows c.add.new.self.pieces c.push.new.self ≡ kept_rows s.flat.pieces s.rows ++ row ∷ [] =
    ap (kept_rows c.add.new.self.pieces) c.in-Ok.ensures.ok ∙ more.pushed in
    ap (λ (rs : List SystemRow). record { levels = s.levels; requesters = false ∷ s.others; rows = rs }) seen_so
    ∙ ap (λ (e : SystemEquations). record e { rows = e.rows ++ row ∷ [] }) c.self.view_is
