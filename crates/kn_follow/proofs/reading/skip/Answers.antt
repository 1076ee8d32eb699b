use Rattle.std.proofs.Common.{refl}
use Rattle.kn_follow.proofs.Loops.{skip_short, skip_other, skip_more, skip_done}
use Rattle.kn_follow.proofs.reading.skip.Goals as goal

pub returns-in_default : goal.returns-in_default
returns-in_default c = skip_short c.args.literal.now c.loop-byte.byte-index c.loop-byte.rest.now _ c.loop-byte-test.true
    c.in_default.ensures.cases c.loop-byte.invariant

pub returns-then-first-byte : goal.returns-then-first-byte
returns-then-first-byte c =
    skip_other c.args.literal.now c.loop-byte.byte-index c.loop-byte.rest.now c.in-Some.first.now _ c.in-Some.behind.now
    _ c.loop-byte-test.true refl c.in-Some.ensures.cases.0 c.if-first-byte.true
    c.loop-byte.invariant

pub loop-byte-preserved : goal.loop-byte-preserved
loop-byte-preserved c =
    skip_more c.args.literal.now c.loop-byte.byte-index c.loop-byte.rest.now c.in-Some.first.now _ c.in-Some.behind.now
    _ c.loop-byte-test.true refl c.in-Some.ensures.cases.0 c.if-first-byte.false
    c.loop-byte.invariant

pub returns : goal.returns
returns c = skip_done c.args.literal.now c.loop-byte.byte-index c.loop-byte.rest.now _ c.loop-byte-test.false
    c.loop-byte.invariant
