use Rattle.std.proofs.Common.{rules, ◌∙◌}
use Rattle.std.proofs.lemmas.Option.{slice_get_read}
use Rattle.kn_pages.proofs.PageLemmas.{item_here, item_behind, item_last}
use Rattle.kn_pages.proofs.pages.item_at.Goals as goal

pub returns-then-left-len : goal.returns-then-left-len
returns-then-left-len g c =
    c.loop-page.invariant.same
    ∙ item_here c.args.closed.now c.loop-page.page-index c.page-item.result c.args.last.now (search rules)
    c.page-item.is c.loop-page.left (search rules)
    ∙ search (rules, slice_get_read)

pub loop-page-preserved : goal.loop-page-preserved
loop-page-preserved g c =
    let step = item_behind c.args.closed.now c.loop-page.page-index c.page-item.result c.args.last.now (search rules)
    c.page-item.is c.loop-page.left (search rules) c.loop-page.invariant.within in
    record { within = search rules; same = c.loop-page.invariant.same ∙ step.1 ∙ search rules }

pub returns : goal.returns
returns g c =
    c.loop-page.invariant.same
    ∙ item_last c.args.closed.now c.loop-page.page-index c.args.last.now c.loop-page.left c.index-last-left.result
    c.loop-page-test.false c.loop-page.invariant.within c.index-last-left.is
