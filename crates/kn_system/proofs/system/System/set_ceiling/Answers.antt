use Rattle.std.proofs.Common.{◌≡◌, ◌<◌, ◌∷◌, false, List, length, get_or, slice_set, ap, ◌∙◌, arith}
use Rattle.std.proofs.lemmas.List.{length-map}
use Rattle.kn_system.specs.declared.rows.StoredRow.{StoredRow}
use Rattle.kn_system.specs.Equations.{SystemEquations, with_row_ceiling}
use Rattle.kn_system.specs.KeptRows.{kept_rows}
use Rattle.kn_system.specs.Rows.{SystemRow}
use Rattle.kn_system.proofs.OtherCeilings.{IsRecapped, is_recapped, stored_with}
use Rattle.kn_system.proofs.system.System.set_ceiling.Goals as goal

pub invariant_of-self : goal.invariant_of-self
invariant_of-self g c =
    let s = c.self.inside in
    let none : StoredRow = record { authorizer = 0; ceiling = 0; start = 0; size = 0 } in
    let count : length (kept_rows s.flat.pieces s.rows) ≡ length s.rows = simp length-map in
    let within : c.args.row < length s.rows =
    omega (arith, c.requires.row_in_range, ap (λ (e : SystemEquations). length e.rows) c.self.view_is, count) in
    let low : c.args.ceiling < s.levels =
    omega (arith, c.requires.ceiling_in_range, ap (λ (e : SystemEquations). e.levels) c.self.view_is) in
    let is : IsRecapped s.levels (false ∷ s.others) s.rows c.replace-former.new.self s.flat c.args.row c.args.ceiling =
    is_recapped s.levels (false ∷ s.others) s.rows c.replace-former.new.self s.flat c.args.row c.args.ceiling
    none within low (c.replace-former.ensures.after
    ∙ ap (λ (rs : List StoredRow).
    slice_set s.rows c.args.row (stored_with (get_or rs c.args.row none) c.args.ceiling)) c.as_slice.ensures)
    c.self.invariant.0 c.self.invariant.1 in
    (is.fits, is.kept)

pub returns-clause-ok : goal.returns-clause-ok
returns-clause-ok g c =
    let s = c.self.inside in
    let none : StoredRow = record { authorizer = 0; ceiling = 0; start = 0; size = 0 } in
    let count : length (kept_rows s.flat.pieces s.rows) ≡ length s.rows = simp length-map in
    let within : c.args.row < length s.rows =
    omega (arith, c.requires.row_in_range, ap (λ (e : SystemEquations). length e.rows) c.self.view_is, count) in
    let low : c.args.ceiling < s.levels =
    omega (arith, c.requires.ceiling_in_range, ap (λ (e : SystemEquations). e.levels) c.self.view_is) in
    let is : IsRecapped s.levels (false ∷ s.others) s.rows c.replace-former.new.self s.flat c.args.row c.args.ceiling =
    is_recapped s.levels (false ∷ s.others) s.rows c.replace-former.new.self s.flat c.args.row c.args.ceiling
    none within low (c.replace-former.ensures.after
    ∙ ap (λ (rs : List StoredRow).
    slice_set s.rows c.args.row (stored_with (get_or rs c.args.row none) c.args.ceiling)) c.as_slice.ensures)
    c.self.invariant.0 c.self.invariant.1 in
    ap (λ (rs : List SystemRow). record { levels = s.levels; requesters = false ∷ s.others; rows = rs }) is.same
    ∙ ap (λ (e : SystemEquations). record e { rows = with_row_ceiling e.rows c.args.row c.args.ceiling }) c.self.view_is
