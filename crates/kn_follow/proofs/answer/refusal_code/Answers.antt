use Rattle.std.proofs.Common.{ap, ◌∙◌}
use Rattle.kn_base.specs.Decimal.{decimal_of}
use Rattle.kn_follow.proofs.Refusals.{words-code, words-none, bare-space, alone-code, alone-none}
use Rattle.kn_follow.proofs.answer.refusal_code.Goals as goal

pub returns-then-at-body-clause-none : goal.returns-then-at-body-clause-none
returns-then-at-body-clause-none c =
    bare-space c.args.answer.now c.in_ok-body.body.now c.in-Some.at c.in_ok-body.ensures.some c.in-Some.ensures.place
    c.if-at-body.true

pub returns-else-at-body-clause-code : goal.returns-else-at-body-clause-code
returns-else-at-body-clause-code c =
    words-code c.args.answer.now c.in_ok-body.body.now c.in-Some.at c.in_ok-body.ensures.some c.in-Some.ensures.place
    c.if-at-body.false
    c.decimal.result (c.decimal.ensures ∙ ap decimal_of c.split_at.ensures.front)

pub returns-else-at-body-clause-none : goal.returns-else-at-body-clause-none
returns-else-at-body-clause-none c =
    words-none c.args.answer.now c.in_ok-body.body.now c.in-Some.at c.in_ok-body.ensures.some c.in-Some.ensures.place
    c.if-at-body.false
    c.decimal.result (c.decimal.ensures ∙ ap decimal_of c.split_at.ensures.front)

pub returns-in-None-clause-code : goal.returns-in-None-clause-code
returns-in-None-clause-code c =
    alone-code c.args.answer.now c.in_ok-body.body.now c.in_ok-body.ensures.some c.in-None.ensures.place
    c.decimal-in-None.result c.decimal-in-None.ensures

pub returns-in-None-clause-none : goal.returns-in-None-clause-none
returns-in-None-clause-none c =
    alone-none c.args.answer.now c.in_ok-body.body.now c.in_ok-body.ensures.some c.in-None.ensures.place
    c.decimal-in-None.result c.decimal-in-None.ensures
