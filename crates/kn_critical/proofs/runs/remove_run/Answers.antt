use Rattle.std.proofs.Common.{◌≡◌, ℕ, Bool, true, false, List, length, slice_set, sym, ap, ◌∙◌, arith, add-one}
use Rattle.kn_meaning.specs.Critical.{is_row_by}
use Rattle.kn_answer.specs.Based.{BaseView}
use Rattle.kn_critical.specs.Searching.{flags_without}
use Rattle.kn_critical.proofs.Flags.{length-without, none-out, one-out, one-stays}
use Rattle.kn_critical.proofs.runs.remove_run.Goals.{then-is_named, else-is_named}
use Rattle.kn_critical.proofs.runs.remove_run.Goals as goal

pub loop-row-init : goal.loop-row-init
loop-row-init c =
    ap (λ (fs : List Bool). record c.args.base.now { live = fs })
    (c.requires.live ∙ sym (none-out c.args.rows.now c.args.list.now c.args.start))

pub remove-requires : goal.remove-requires
remove-requires c =
    let long : length c.loop-row.base.live ≡ length c.args.list.now =
    ap (λ (b : BaseView). length b.live) c.loop-row.invariant
    ∙ length-without c.args.rows.now c.args.list.now c.args.start c.loop-row.row in
    omega (arith, long)

pub loop-row-preserved : goal.loop-row-preserved
loop-row-preserved c =
    let rows = c.args.rows.now in
    let parts = c.args.list.now in
    let start : ℕ = c.args.start in
    let row : ℕ = c.loop-row.row in
    elim c.if-is_named.branch [
      | then-is_named w ↦
          let named : is_row_by rows c.id.result ≡ true = sym c.is_named.ensures ∙ w.if-is_named.true in
          w.base-is ∙ w.remove.ensures
          ∙ ap (λ (b : BaseView). record b { live = slice_set b.live row false }) c.loop-row.invariant
          ∙ ap (λ (fs : List Bool). record c.args.base.now { live = fs })
          (one-out rows parts start row c.id.result (omega arith) c.id.ensures named
          ∙ ap (flags_without rows parts start) (sym (add-one row)))
      | else-is_named w ↦
          let unnamed : is_row_by rows c.id.result ≡ false = sym c.is_named.ensures ∙ w.if-is_named.false in
          w.base-is ∙ c.loop-row.invariant
          ∙ ap (λ (fs : List Bool). record c.args.base.now { live = fs })
          (one-stays rows parts start row c.id.result (omega arith) c.id.ensures unnamed
          ∙ ap (flags_without rows parts start) (sym (add-one row)))
    ]
