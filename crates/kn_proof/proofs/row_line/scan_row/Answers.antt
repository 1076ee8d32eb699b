use Rattle.std.proofs.Common.{inl, inr, refl, sym}
use Rattle.kn_proof.proofs.Lines.{no_row_form, not_closed, large_row}
use Rattle.kn_proof.proofs.ScanLaws.{row_at}
use Rattle.kn_proof.proofs.row_line.scan_row.Goals as goal
use Rattle.kn_proof.proofs.row_line.scan_row.Goals.{then-not-is_numeral-via-then-not-is_numeral}
use Rattle.kn_proof.proofs.row_line.scan_row.Goals.{then-not-is_numeral-via-else-not-is_numeral+then-not-is_id}

pub returns-then-not-is_numeral-clause-err : goal.returns-then-not-is_numeral-clause-err
returns-then-not-is_numeral-clause-err c = (
  refl,
  no_row_form c.args.text.now c.in-Some.words.value.now c.in-Some.words.id.now c.in-Some.words.rest.now
      c.in-Some.ensures
      (elim c.then-not-is_numeral.branch [
        | then-not-is_numeral-via-then-not-is_numeral w ↦ inl (sym w.if-not-is_numeral.ensures)
        | then-not-is_numeral-via-else-not-is_numeral+then-not-is_id w ↦ inr (sym w.if-not-is_id.ensures)
      ]),
)

pub returns-in_default-behind-clause-err : goal.returns-in_default-behind-clause-err
returns-in_default-behind-clause-err c = (
  refl,
  not_closed c.args.text.now c.in-Some.words.value.now c.in-Some.words.id.now c.in-Some.words.rest.now
      c.behind_quoted.ensures.quoted.principal c.behind_quoted.result.now
      c.in-Some.ensures c.behind_quoted.ensures.quoted.spelled c.behind_quoted.ensures.quoted.bytes
      c.behind_quoted.ensures.all c.in_default-behind.ensures,
)

pub returns-in_default-small_number-clause-err : goal.returns-in_default-small_number-clause-err
returns-in_default-small_number-clause-err c = (
  refl,
  large_row c.args.text.now c.in-Some.words.value.now c.in-Some.words.id.now c.in-Some.words.rest.now
      c.behind_quoted.ensures.quoted.principal c.behind_quoted.result.now
      c.in-Some-behind.rest.now c.in-Some.ensures c.behind_quoted.ensures.quoted.spelled c.in-Some-behind.ensures
      c.behind_quoted.ensures.quoted.bytes (sym c.if-not-is_numeral.ensures) (sym c.if-not-is_id.ensures)
      (inl c.in_default-small_number.ensures.large),
)

pub returns-in_default-read_id-clause-err : goal.returns-in_default-read_id-clause-err
returns-in_default-read_id-clause-err c = (
  refl,
  large_row c.args.text.now c.in-Some.words.value.now c.in-Some.words.id.now c.in-Some.words.rest.now
      c.behind_quoted.ensures.quoted.principal c.behind_quoted.result.now
      c.in-Some-behind.rest.now c.in-Some.ensures c.behind_quoted.ensures.quoted.spelled c.in-Some-behind.ensures
      c.behind_quoted.ensures.quoted.bytes (sym c.if-not-is_numeral.ensures) (sym c.if-not-is_id.ensures)
      (inr c.in_default-read_id.ensures.long),
)

pub returns-clause-ok : goal.returns-clause-ok
returns-clause-ok c =
    row_at c.args.text.now c.in-Some.words.value.now c.in-Some.words.id.now c.in-Some.words.rest.now
    c.behind_quoted.result.now c.in-Some-behind.rest.now c.in-Some-small_number.value
    c.in-Some-read_id.id c.in-Some.ensures c.behind_quoted.ensures.quoted c.in-Some-behind.ensures
    c.in-Some-small_number.ensures.spelled c.in-Some-small_number.ensures.range
    c.in-Some-read_id.ensures.spelled c.in-Some-read_id.ensures.range
