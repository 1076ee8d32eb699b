use Rattle.kn_reply_reader.proofs.EndingLaws.{cut_end_once, passed, ended, unended}
use Rattle.kn_reply_reader.proofs.ending.cut_behind_end.Goals as goal

pub returns-in-Some-clause-only : goal.returns-in-Some-clause-only
returns-in-Some-clause-only c = λ reply rest is.
    rw (c.split_at.ensures.front, c.split_at.ensures.back)
    (cut_end_once c.args.text.now _ reply _ rest
    (ended c.args.text.now c.lines.lines.now c.in-Some.rest.now c.lines.invariant c.in-Some.ensures) is)

pub returns-in_default-cut-clause-only : goal.returns-in_default-cut-clause-only
returns-in_default-cut-clause-only c = λ reply rest is.
    unended c.args.text.now c.lines.lines.now reply rest c.lines.invariant c.in_default-cut.ensures.cut is

pub lines-preserved : goal.lines-preserved
lines-preserved c =
    passed c.args.text.now c.lines.lines.now c.in-Some-cut._line.now c.in-Some-cut.rest.now c.lines.invariant
    c.in_default.ensures c.in-Some-cut.ensures.cut c.in-Some-cut.ensures.first
