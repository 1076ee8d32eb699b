use Rattle.std.proofs.Common.{rules, ◌∙◌}
use Rattle.kn_store.proofs.SearchLemmas.{found_at, passed, none_in_page}
use Rattle.kn_store.proofs.live_set.place_in.Goals as goal

pub returns-then-id : goal.returns-then-id
returns-then-id c = search (rules, found_at)

pub loop-place-preserved : goal.loop-place-preserved
loop-place-preserved c =
    passed c.args.id c.args.page.now c.loop-place.place c.index-page-place.result c.loop-place-test.true
    c.index-page-place.is
    (λ same. c.if-id.false (c.id.ensures ∙ same)) c.loop-place.invariant

pub returns : goal.returns
returns c = none_in_page c.args.id c.args.page.now c.loop-place.place (search rules) c.loop-place.invariant
