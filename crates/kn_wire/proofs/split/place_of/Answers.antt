use Rattle.std.proofs.Common.{arith}
use Rattle.kn_wire.proofs.Splits.{place_further, place_found, place_none, place_within}
use Rattle.kn_wire.proofs.split.place_of.Goals as goal

pub loop-at-preserved : goal.loop-at-preserved
loop-at-preserved c = place_further c.args.text.now c.args.wanted c.loop-at.at c.loop-at.invariant c.loop-at-test.true
    c.if-text-at.true

pub returns-else-text-at : goal.returns-else-text-at
returns-else-text-at c =
    let found = place_found c.args.text.now c.args.wanted c.loop-at.at c.loop-at.invariant c.loop-at-test.true
    c.if-text-at.false in
    record { place = found; within = omega arith }

pub returns-after-loop-at : goal.returns-after-loop-at
returns-after-loop-at c =
    let within = place_within c.args.text.now c.args.wanted in
    let place = place_none c.args.text.now c.args.wanted c.loop-at.at c.loop-at.invariant c.loop-at-test.false in
    record { place = place; within = omega arith }
