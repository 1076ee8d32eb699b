use Rattle.std.proofs.lemmas.Result.{err_from_is_err_and}
use Rattle.kn_endings.proofs.Printed.{printed-more, printed-part}
use Rattle.kn_endings.proofs.line.print_each.Goals as goal

pub loop-text-preserved : goal.loop-text-preserved
loop-text-preserved g c =
    printed-more (λ t. t.now) c.args.texts.now c.loop-text.text-index _ _ _ _ c.loop-text-test.true
    c.loop-text.invariant c.in_ok-write_all.ensures.writes

pub returns-in_err-write_all : goal.returns-in_err-write_all
returns-in_err-write_all g c =
    let p = err_from_is_err_and c.from_residual.result c.from_residual.ensures.1 in
    rw p.1 (printed-part (λ t. t.now) c.args.texts.now c.loop-text.text-index _ _ _ _ c.loop-text-test.true
    c.loop-text.invariant c.in_err-write_all.ensures)
