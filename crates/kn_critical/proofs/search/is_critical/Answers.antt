use Rattle.std.proofs.Common.{◌≡◌, true, false, sym, ◌∙◌, ◌+◌, subst, le_refl}
use Rattle.kn_meaning.specs.Critical.{is_row_by}
use Rattle.kn_critical.proofs.CriticalByLevels.{decides-cleared, decides-none, decides-tried, later-uncritical, one-id}
use Rattle.kn_critical.proofs.search.is_critical.Goals as goal

pub returns-then-row-gallop-clause-critical : goal.returns-then-row-gallop-clause-critical
returns-then-row-gallop-clause-critical g c =
    decides-cleared c.args.question.now.query.now c.args.question.now.list.now c.args.row c.args.gallop.now.cleared
    c.args.row (le_refl c.args.row)
    c.if-row-gallop.true c.requires.cleared

pub returns-then-row-gallop-clause-cleared : goal.returns-then-row-gallop-clause-cleared
returns-then-row-gallop-clause-cleared g c =
    later-uncritical c.args.question.now.query.now c.args.question.now.list.now c.args.row c.args.gallop.now.cleared
    c.requires.cleared

pub returns-then-not-is_named-clause-critical : goal.returns-then-not-is_named-clause-critical
returns-then-not-is_named-clause-critical g c =
    let unnamed : is_row_by c.args.answer.now.rows c.id.result ≡ false =
    sym c.is_named.ensures ∙ c.if-not-is_named.true in
    decides-none c.args.question.now.query.now c.args.question.now.list.now c.args.row c.id.result c.id.ensures
    (c.unnamed_is_not_critical.ensures.uncritical c.args.question.now.query.now c.args.question.now.list.now c.id.result
    c.args.answer.now.rows c.args.answer.now.value c.requires.proof unnamed)

pub returns-then-not-is_named-clause-cleared : goal.returns-then-not-is_named-clause-cleared
returns-then-not-is_named-clause-cleared g c =
    later-uncritical c.args.question.now.query.now c.args.question.now.list.now c.args.row c.args.gallop.now.cleared
    c.requires.cleared

pub clear_rows-requires-clause-named : goal.clear_rows-requires-clause-named
clear_rows-requires-clause-named g c =
    let named : is_row_by c.args.answer.now.rows c.id.result ≡ true =
    sym c.is_named.ensures ∙ c.if-not-is_named.false in
    λ id here. subst (λ i. is_row_by c.args.answer.now.rows i ≡ true)
    (one-id c.args.question.now.list.now c.args.row c.id.result id c.id.ensures here) named

pub returns-clause-critical : goal.returns-clause-critical
returns-clause-critical g c =
    decides-tried c.args.question.now.query.now c.args.question.now.list.now c.args.row c.in_ok-cleared.cleared
    c.in_ok-cleared.ensures.cleared c.in_ok-cleared.ensures.critical

pub returns-clause-cleared : goal.returns-clause-cleared
returns-clause-cleared g c =
    later-uncritical c.args.question.now.query.now c.args.question.now.list.now c.args.row
    (c.args.row + c.in_ok-cleared.cleared) c.in_ok-cleared.ensures.cleared
