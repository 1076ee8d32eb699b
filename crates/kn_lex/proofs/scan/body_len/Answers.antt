use Rattle.std.proofs.Common.{◌≡◌, ◌+◌, drop, arith, refl, sym, ◌∙◌}
use Rattle.kn_lex.specs.Scanning.{body_len}
use Rattle.kn_lex.proofs.Scans.{body_by_line, body_at_line, body_len_end}
use Rattle.kn_lex.proofs.scan.body_len.Goals as goal

pub returns-then-at-rest-clause-len : goal.returns-then-at-rest-clause-len
returns-then-at-rest-clause-len c =
    let line = sym (rw c.split_at.ensures.back at c.line_len-at.ensures.len) in
    let whole = body_by_line _ _ _ line c.loop-at.invariant.counted in
    let end = body_len_end _ _ c.if-at-rest.true in
    omega (arith, whole, end)

pub returns-then-not-is_continuation-clause-len : goal.returns-then-not-is_continuation-clause-len
returns-then-not-is_continuation-clause-len c =
    let line = sym (rw c.split_at.ensures.back at c.line_len-at.ensures.len) in
    let whole = body_by_line _ _ _ line c.loop-at.invariant.counted in
    let other = sym (rw c.split_at-in-loop-at.ensures.back at c.is_continuation.ensures)
    ∙ c.if-not-is_continuation.true in
    let stop : body_len (drop (c.loop-at.at + c.line_len-at.result) c.args.rest.now) ≡ 0 =
    body_at_line c.args.rest.now c.loop-at.at c.line_len-at.result line (omega (arith, c.if-at-rest.false))
    ∙ rw other refl in
    omega (arith, whole, stop)
