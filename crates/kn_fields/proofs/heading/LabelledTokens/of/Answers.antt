use Rattle.std.proofs.Common.{arith}
use Rattle.kn_fields.proofs.Headings.{first_seen, more_seen, all_seen}
use Rattle.kn_fields.proofs.heading.LabelledTokens.of.Goals as goal

pub loop-label-init : goal.loop-label-init
loop-label-init c =
    let front = c.stretch_from-label in
    rw c.new-headings.ensures.items (first_seen _ _ _ front.ensures.end front.ensures.has_stray)

pub loop-label-preserved : goal.loop-label-preserved
loop-label-preserved c =
    let behind = c.stretch_from-behind in
    let seen = more_seen _ _ _ _ _ _ _ c.loop-label.invariant (omega (arith, c.loop-label-test.true, c.len.ensures))
    c.number_at-number.ensures
    behind.ensures.end behind.ensures.has_stray in
    grind (arith, seen)

pub invariant_of-result : goal.invariant_of-result
invariant_of-result c = all_seen _ _ _ _ c.loop-label.invariant (omega (arith, c.loop-label-test.false, c.len.ensures))
