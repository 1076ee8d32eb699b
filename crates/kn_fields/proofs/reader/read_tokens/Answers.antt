use Rattle.std.proofs.Common.{inr}
use Rattle.std.proofs.lemmas.Result.{err_from_is_err_and}
use Rattle.kn_fields.proofs.FirstFaults.{too_long, lexical_cause}
use Rattle.kn_fields.proofs.reader.read_tokens.Goals as goal

pub returns-in_err-tokens-clause-err : goal.returns-in_err-tokens-clause-err
returns-in_err-tokens-clause-err c =
    let told = err_from_is_err_and c.from_residual.result c.from_residual.ensures.1 in
    rw (told.1, told.2)
    (lexical_cause c.tokens_or_first_fault.ensures.one_fault c.args.text.now c.in_err-tokens.field-0.0
    c.if-text-gt-ASSERTION_BYTES.false c.in_err-tokens.ensures.stuck)

pub returns-then-text-gt-ASSERTION_BYTES-clause-err : goal.returns-then-text-gt-ASSERTION_BYTES-clause-err
returns-then-text-gt-ASSERTION_BYTES-clause-err c = inr (too_long c.args.text.now c.if-text-gt-ASSERTION_BYTES.true)
