use Rattle.kn_proof.proofs.Lines.{no_name, no_version, no_count}
use Rattle.kn_proof.proofs.header.header_words.Goals as goal

pub returns-in_err-name : goal.returns-in_err-name
returns-in_err-name c =
    rw c.from_residual-in_err-name.ensures
    (no_name c.args.text.now c.in_ok-words.words.now c.in_ok-value.value.now c.in_ok-value.words.now
    c.in_ok-words.ensures c.in_ok-value.ensures.cut c.in_ok-value.ensures.first c.in_err-name.ensures.cut)

pub returns-in_err-version : goal.returns-in_err-version
returns-in_err-version c =
    rw c.from_residual-in_err-version.ensures
    (no_version c.args.text.now c.in_ok-words.words.now c.in_ok-value.value.now c.in_ok-value.words.now
    c.in_ok-name.name.now c.in_ok-name.words.now c.in_ok-words.ensures c.in_ok-value.ensures.cut
    c.in_ok-value.ensures.first c.in_ok-name.ensures.cut c.in_ok-name.ensures.first c.in_err-version.ensures.cut)

pub returns-in_err-count : goal.returns-in_err-count
returns-in_err-count c =
    rw c.from_residual-in_err-count.ensures
    (no_count c.args.text.now c.in_ok-words.words.now c.in_ok-value.value.now c.in_ok-value.words.now
    c.in_ok-name.name.now c.in_ok-name.words.now c.in_ok-version.version.now c.in_ok-version.words.now
    c.in_ok-words.ensures c.in_ok-value.ensures.cut c.in_ok-value.ensures.first c.in_ok-name.ensures.cut
    c.in_ok-name.ensures.first c.in_ok-version.ensures.cut c.in_ok-version.ensures.first c.in_err-count.ensures.cut)
