use Rattle.kn_proof.proofs.Lines.{no_id, no_quote}
use Rattle.kn_proof.proofs.row_line.row_words.Goals as goal

pub returns-in_err-id : goal.returns-in_err-id
returns-in_err-id c =
    rw c.from_residual-in_err-id.ensures
    (no_id c.args.text.now c.in_ok-words.words.now c.in_ok-value.value.now c.in_ok-value.words.now c.in_ok-words.ensures
    c.in_ok-value.ensures.cut c.in_ok-value.ensures.first c.in_err-id.ensures.cut)

pub returns-in_err-rest : goal.returns-in_err-rest
returns-in_err-rest c =
    rw c.from_residual-in_err-rest.ensures
    (no_quote c.args.text.now c.in_ok-words.words.now c.in_ok-value.value.now c.in_ok-value.words.now c.in_ok-id.id.now
    c.in_ok-id.words.now c.in_ok-words.ensures c.in_ok-value.ensures.cut c.in_ok-value.ensures.first
    c.in_ok-id.ensures.cut c.in_ok-id.ensures.first c.in_err-rest.ensures)
