use Rattle.std.proofs.Common.{◌≡◌, ◌+◌, ◌<◌, length, get_or, take, sym, ap, ◌∙◌, subst, arith}
use Rattle.kn_answer.proofs.RowLists.{located-more}
use Rattle.kn_answer.specs.Located.{AreLocated}
use Rattle.kn_answer.proofs.built.locate.Goals as goal

pub loop-row-preserved : goal.loop-row-preserved
loop-row-preserved c =
    let items : c.as_slice-row-items.result.now ≡ c.args.reply.now.rows = c.as_slice-row-items.ensures in
    let within : c.loop-row.row-index < length c.args.reply.now.rows = omega (arith, ap length items) in
    let here : c.row-item.result ≡ get_or c.args.reply.now.rows c.loop-row.row-index c.row-item.result = c.row-item.is
    ∙ ap (λ xs. get_or xs c.loop-row.row-index c.row-item.result) items in
    subst (λ rows. AreLocated c.args.built.now (take (c.loop-row.row-index + 1) c.args.reply.now.rows) rows)
    (sym c.in_ok-add.ensures.ok)
    (located-more c.args.built.now c.args.reply.now.rows c.loop-row.rows c.loop-row.row-index c.row-item.result
    c.numbered_row.result within here c.loop-row.invariant c.numbered_row.ensures)
