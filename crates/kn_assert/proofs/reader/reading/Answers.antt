use Rattle.std.proofs.Common.{inr, refl}
use Rattle.std.proofs.lemmas.Result.{err_from_is_err_and}
use Rattle.kn_assert.proofs.Answered.{reading_here, fields_fault}
use Rattle.kn_assert.proofs.FieldLemmas.{fault_passed}
use Rattle.kn_assert.proofs.reader.reading.Goals as goal

pub returns-in_err-fields : goal.returns-in_err-fields
returns-in_err-fields c =
    let told = err_from_is_err_and c.from_residual.result c.from_residual.ensures.1 in
    rw (told.1, told.2)
    (fields_fault c.args.text.now c.in_err-fields.field-0.0
    (c.fields_are_computed.ensures.fault c.args.text.now c.in_err-fields.field-0.0) c.in_err-fields.ensures.fault)

pub returns-in_err-stated : goal.returns-in_err-stated
returns-in_err-stated c =
    let here = reading_here c.args.text.now _ (c.fields_are_computed.ensures.tokens c.args.text.now)
    c.in_ok-fields.ensures.tokens c.in_ok-fields.ensures.faultless c.in_ok-fields.ensures.constants
    c.in_ok-fields.ensures.signed_to in
    let told = err_from_is_err_and c.from_residual-in_err-stated.result c.from_residual-in_err-stated.ensures.1 in
    rw (told.1, told.2) (fault_passed c.in_err-stated.field-0.0 _ _ _ here c.in_err-stated.ensures)

pub returns-in_default : goal.returns-in_default
returns-in_default c =
    let here = reading_here c.args.text.now _ (c.fields_are_computed.ensures.tokens c.args.text.now)
    c.in_ok-fields.ensures.tokens c.in_ok-fields.ensures.faultless c.in_ok-fields.ensures.constants
    c.in_ok-fields.ensures.signed_to in
    inr (rw (here, c.in_ok-stated.ensures, c.in_default.is) refl)

pub returns : goal.returns
returns c =
    let here = reading_here c.args.text.now _ (c.fields_are_computed.ensures.tokens c.args.text.now)
    c.in_ok-fields.ensures.tokens c.in_ok-fields.ensures.faultless c.in_ok-fields.ensures.constants
    c.in_ok-fields.ensures.signed_to in
    rw (here, c.in_ok-stated.ensures, c.in-Some.is) refl
