use Rattle.std.proofs.Common.{◌≡◌, ◌<◌, ℕ, List, get_or, length, map, Some, refl, sym, ap, subst, ◌∙◌, arith}
use Rattle.std.specs.Prelude.{slice_get}
use Rattle.std.proofs.lemmas.Option.{slice_get_read}
use Rattle.kn_proof.specs.declared.named.Id.TheVariants.{Shared}
use Rattle.kn_meaning.specs.Equations.{Part}
use Rattle.kn_history.specs.History.{NumberedText}
use Rattle.kn_daemon.specs.Daemon.{parts_of}
use Rattle.kn_rows.specs.Numbering.{IsNumber}
use Rattle.kn_query.proofs.SharedParts.{assertion-at, parts-count}
use Rattle.kn_query.proofs.shared_rows.SharedRowsAssertions.assertion.Goals as goal

pub bounds-as_slice-row : goal.bounds-as_slice-row
bounds-as_slice-row c =
    let rows : List NumberedText = c.self.inside.rows in
    let within : c.args.row < length (parts_of Shared rows) =
    subst (λ (l : List NumberedText). c.args.row < length (parts_of Shared l)) (sym c.self.view_is) c.requires in
    omega (arith, within, parts-count Shared rows c.self.invariant.0, ap length c.as_slice.ensures)

pub returns : goal.returns
returns c =
    let rows : List NumberedText = c.self.inside.rows in
    let row : ℕ = c.args.row in
    let here : NumberedText = c.index-as_slice-row.result in
    let counted : c.args.row < length (parts_of Shared rows) =
    subst (λ (l : List NumberedText). c.args.row < length (parts_of Shared l)) (sym c.self.view_is) c.requires in
    let within : c.args.row < length rows = omega (arith, counted, parts-count Shared rows c.self.invariant.0) in
    let there : slice_get rows row ≡ Some here =
    slice_get_read rows (length rows) row here refl within (c.index-as_slice-row.is
    ∙ ap (λ (l : List NumberedText). get_or l row here) c.as_slice.ensures) in
    subst (λ (l : List NumberedText). IsNumber (map (λ (p : Part). p.assertion) (parts_of Shared l))
    c.assertion.result.now row) c.self.view_is
    (assertion-at Shared rows c.self.invariant.0 row here c.assertion.result.now there c.assertion.ensures)
