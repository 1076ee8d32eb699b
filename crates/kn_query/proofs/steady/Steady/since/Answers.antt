use Rattle.std.proofs.Common.{arith}
use Rattle.kn_query.proofs.SteadyLevels.{covered-before, covered-alone, steady-since}
use Rattle.kn_query.proofs.steady.Steady.since.Goals as goal

pub returns-then-number-saturating_add-clause-steady : goal.returns-then-number-saturating_add-clause-steady
returns-then-number-saturating_add-clause-steady c = λ version within is kept.
    steady-since version c.args.number c.args.self (record { from = c.args.self.from; to = c.args.number }) within is
    kept (omega arith)
    (covered-before c.args.self c.args.number
    (omega (arith, c.if-number-saturating_add.true, c.saturating_add.ensures)))

pub returns-else-self-number-clause-steady : goal.returns-else-self-number-clause-steady
returns-else-self-number-clause-steady c = λ version within is kept.
    steady-since version c.args.number c.args.self c.at.result within is kept c.at.ensures.last
    (covered-alone c.args.self c.at.result c.args.number c.at.ensures.first c.at.ensures.last)
