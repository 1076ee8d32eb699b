use Rattle.std.proofs.Common.{◌≡◌, ℕ, Bool, true, List, length, slice_set, sym, ap, ◌∙◌, arith, add-one}
use Rattle.kn_answer.specs.Based.{BaseView}
use Rattle.kn_critical.specs.Searching.{flags_with}
use Rattle.kn_critical.proofs.Flags.{length-with, none-back, one-back}
use Rattle.kn_critical.proofs.runs.restore_run.Goals as goal

pub loop-row-init : goal.loop-row-init
loop-row-init c =
    ap (λ (fs : List Bool). record c.args.base.now { live = fs }) (sym (none-back c.args.base.now.live c.args.start))

pub restore-requires : goal.restore-requires
restore-requires c =
    let long : length c.loop-row.base.live ≡ length c.args.base.now.live =
    ap (λ (b : BaseView). length b.live) c.loop-row.invariant
    ∙ length-with c.args.base.now.live c.args.start c.loop-row.row in
    omega (arith, long)

pub loop-row-preserved : goal.loop-row-preserved
loop-row-preserved c =
    let row : ℕ = c.loop-row.row in
    let flags : List Bool = c.args.base.now.live in
    c.restore.ensures
    ∙ ap (λ (b : BaseView). record b { live = slice_set b.live row true }) c.loop-row.invariant
    ∙ ap (λ (fs : List Bool). record c.args.base.now { live = fs })
    (one-back flags c.args.start row (omega arith) (omega arith)
    ∙ ap (flags_with flags c.args.start) (sym (add-one row)))
