use Rattle.std.proofs.Common.{ℕ, min, sym, ap, ◌∙◌}
use Rattle.kn_reply_reader.proofs.LogLaws.{log_end, log_few, log_none, log_other_count, log_uncounted, log_unended}
use Rattle.kn_reply_reader.proofs.LogLaws.{log_unnumbered, log_unplaced}
use Rattle.kn_reply_reader.proofs.logs.behind_log.Goals as goal

pub returns-in_err-numbers : goal.returns-in_err-numbers
returns-in_err-numbers c = rw c.from_residual.ensures (log_none c.args.left.now c.in_err-numbers.ensures)

pub returns-in_err-from : goal.returns-in_err-from
returns-in_err-from c =
    rw c.from_residual-in_err-from.ensures
    (log_unnumbered c.args.left.now c.in_ok-numbers.numbers.now c.in_ok-numbers.ensures c.in_err-from.ensures)

pub returns-in_err-count : goal.returns-in_err-count
returns-in_err-count c =
    rw c.from_residual-in_err-count.ensures
    (log_uncounted c.args.left.now c.in_ok-numbers.numbers.now c.in_ok-numbers.ensures c.in_ok-from.from
    c.in_ok-from.others.now c.in_ok-from.ensures c.in_err-count.ensures)

pub returns-in_err-place : goal.returns-in_err-place
returns-in_err-place c =
    rw c.from_residual-in_err-place.ensures
    (log_unplaced c.args.left.now c.in_ok-numbers.numbers.now c.in_ok-numbers.ensures c.in_ok-from.from
    c.in_ok-from.others.now c.in_ok-from.ensures
    c.in_ok-count.count c.in_ok-count.last.now c.in_ok-count.ensures c.in_err-place.ensures)

pub returns-then-count-min : goal.returns-then-count-min
returns-then-count-min c =
    log_other_count c.args.left.now c.in_ok-numbers.numbers.now c.in_ok-numbers.ensures c.in_ok-from.from
    c.in_ok-from.others.now c.in_ok-from.ensures
    c.in_ok-count.count c.in_ok-count.last.now c.in_ok-count.ensures c.in_ok-place.place c.in_ok-place.updates.now
    c.in_ok-place.ensures
    (λ same. c.if-count-min.true (same ∙ sym (c.min.ensures ∙ ap (λ (k : ℕ). min 16 k) c.saturating_sub.ensures)))

pub returns-in_err-end : goal.returns-in_err-end
returns-in_err-end c =
    rw c.from_residual-in_err-end.ensures
    (log_few c.args.left.now c.in_ok-numbers.numbers.now c.in_ok-numbers.ensures c.in_ok-from.from
    c.in_ok-from.others.now c.in_ok-from.ensures
    c.in_ok-count.count c.in_ok-count.last.now c.in_ok-count.ensures c.in_ok-place.place c.in_ok-place.updates.now
    c.in_ok-place.ensures
    (c.if-count-min.false ∙ c.min.ensures ∙ ap (λ (k : ℕ). min 16 k) c.saturating_sub.ensures) c.in_err-end.ensures)

pub returns-in_err-rest : goal.returns-in_err-rest
returns-in_err-rest c =
    rw c.from_residual-in_err-rest.ensures
    (log_unended c.args.left.now c.in_ok-numbers.numbers.now c.in_ok-numbers.ensures c.in_ok-from.from
    c.in_ok-from.others.now c.in_ok-from.ensures
    c.in_ok-count.count c.in_ok-count.last.now c.in_ok-count.ensures c.in_ok-place.place c.in_ok-place.updates.now
    c.in_ok-place.ensures
    (c.if-count-min.false ∙ c.min.ensures ∙ ap (λ (k : ℕ). min 16 k) c.saturating_sub.ensures) c.in_ok-end.end.now
    c.in_ok-end.ensures c.in_err-rest.ensures)

pub returns : goal.returns
returns c =
    log_end c.args.left.now c.in_ok-numbers.numbers.now c.in_ok-numbers.ensures c.in_ok-from.from
    c.in_ok-from.others.now c.in_ok-from.ensures
    c.in_ok-count.count c.in_ok-count.last.now c.in_ok-count.ensures c.in_ok-place.place c.in_ok-place.updates.now
    c.in_ok-place.ensures
    (c.if-count-min.false ∙ c.min.ensures ∙ ap (λ (k : ℕ). min 16 k) c.saturating_sub.ensures) c.in_ok-end.end.now
    c.in_ok-end.ensures c.in_ok-rest.rest.now c.in_ok-rest.ensures
