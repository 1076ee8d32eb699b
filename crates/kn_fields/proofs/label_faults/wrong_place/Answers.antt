use Rattle.std.proofs.Common.{arith, sym, ◌∙◌}
use Rattle.kn_fields.proofs.Headings.{label_at, search_first, search_here, search_more, search_over}
use Rattle.kn_fields.proofs.label_faults.wrong_place.Goals as goal

pub loop-i-init : goal.loop-i-init
loop-i-init c = search_first c.args.wrong c.args.tokens.now

pub returns-then-is_wrong : goal.returns-then-is_wrong
returns-then-is_wrong c =
    let here = label_at c.args.tokens.now c.headings-headings.result.now c.loop-i.i c.headings-headings.ensures
    c.loop-i-test.true in
    let bad = sym (c.is_wrong.ensures _ here.label here.before here.own) ∙ c.if-is_wrong.true in
    let found = search_here c.args.wrong c.args.tokens.now c.headings-headings.result.now _ c.loop-i.i _ here
    c.loop-i.invariant bad in
    grind (arith, found, here.there)

pub loop-i-preserved : goal.loop-i-preserved
loop-i-preserved c =
    let here = label_at c.args.tokens.now c.headings-headings.result.now c.loop-i.i c.headings-headings.ensures
    c.loop-i-test.true in
    search_more c.args.wrong c.args.tokens.now c.headings-headings.result.now _ c.loop-i.i _ here c.loop-i.invariant
    (sym (c.is_wrong.ensures _ here.label here.before here.own) ∙ c.if-is_wrong.false)

pub returns : goal.returns
returns c = sym (search_over c.args.wrong c.args.tokens.now c.headings-headings.result.now c.loop-i.i _
    c.headings-headings.ensures c.loop-i.invariant c.loop-i-test.false)
