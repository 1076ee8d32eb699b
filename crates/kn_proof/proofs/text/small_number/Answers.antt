use Rattle.kn_proof.proofs.Numerals.{small_spelled, large_spelled}
use Rattle.kn_proof.proofs.text.small_number.Goals as goal

pub returns-then-n-gt255-clause-large : goal.returns-then-n-gt255-clause-large
returns-then-n-gt255-clause-large c =
    large_spelled c.args.numeral.now c.in_ok-n.n c.in_ok-n.ensures.spelled c.in_ok-n.ensures.range c.if-n-gt255.true

pub returns-clause-small : goal.returns-clause-small
returns-clause-small c =
    small_spelled c.args.numeral.now c.in_ok-n.n c.in_ok-n.ensures.spelled c.in_ok-n.ensures.range
    c.in_ok-n.ensures.short c.if-n-gt255.false
