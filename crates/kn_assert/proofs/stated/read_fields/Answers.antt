use Rattle.std.proofs.Common.{refl}
use Rattle.std.proofs.lemmas.Result.{err_from_is_err_and}
use Rattle.kn_fields.specs.Fields.{fields_of}
use Rattle.kn_fields.proofs.Headings.{told_at}
use Rattle.kn_assert.proofs.FieldLemmas.{left_next, left_fault, left_last}
use Rattle.kn_assert.proofs.stated.read_fields.Goals as goal

pub loop-heading-init : goal.loop-heading-init
loop-heading-init c = refl

pub with_field-requires-clause-before : goal.with_field-requires-clause-before
with_field-requires-clause-before c =
    (told_at c.args.fields.now.tokens (fields_of c.args.fields.now.tokens) _ c.loop-heading.heading-index
    c.headings-heading-items.ensures c.loop-heading-test.true).exact.part.before

pub with_field-requires-clause-within : goal.with_field-requires-clause-within
with_field-requires-clause-within c =
    (told_at c.args.fields.now.tokens (fields_of c.args.fields.now.tokens) _ c.loop-heading.heading-index
    c.headings-heading-items.ensures c.loop-heading-test.true).exact.part.within

pub returns-in_err-stated : goal.returns-in_err-stated
returns-in_err-stated c =
    let here = told_at c.args.fields.now.tokens (fields_of c.args.fields.now.tokens) _ c.loop-heading.heading-index
    c.headings-heading-items.ensures c.loop-heading-test.true in
    let passed = err_from_is_err_and c.from_residual.result c.from_residual.ensures.1 in
    rw (passed.1, passed.2) (left_fault c.args.fields.now.constants c.args.fields.now.tokens _ c.in_err-stated.field-0.0
    _ c.loop-heading.heading-index c.loop-heading.invariant here c.in_err-stated.ensures)

pub loop-heading-preserved : goal.loop-heading-preserved
loop-heading-preserved c =
    let here = told_at c.args.fields.now.tokens (fields_of c.args.fields.now.tokens) _ c.loop-heading.heading-index
    c.headings-heading-items.ensures c.loop-heading-test.true in
    left_next c.args.fields.now.constants c.args.fields.now.tokens _ _ _ c.loop-heading.heading-index
    c.loop-heading.invariant here c.in_ok-stated.ensures

pub returns : goal.returns
returns c =
    left_last c.args.fields.now.constants c.args.fields.now.tokens _ _ c.loop-heading.heading-index
    c.headings-heading-items.ensures c.loop-heading.invariant c.loop-heading-test.false
