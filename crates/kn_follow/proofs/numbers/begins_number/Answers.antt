use Rattle.std.proofs.Common.{◌∙◌}
use Rattle.kn_follow.proofs.Loops.{begins_last}
use Rattle.kn_follow.proofs.numbers.begins_number.Goals as goal

pub returns-clause-begins : goal.returns-clause-begins
returns-clause-begins c = c.is_between-2.ensures
    ∙ begins_last c.loop.counter c.loop.least c.loop.most c.args.number _ c.loop-test.false c.loop.invariant
