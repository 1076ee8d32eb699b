use Rattle.std.proofs.Common.{◌<◌, ℕ, subst}
use Rattle.std.specs.Prelude.{IfOk}
use Rattle.kn_generate.proofs.query.measure.Goals as goal

pub returns-clause-low : goal.returns-clause-low
returns-clause-low c =
    subst (λ (levels : ℕ). IfOk c.measure_built.result (λ m. m.level < levels)) c.in_ok-built.ensures.of.top
    c.measure_built.ensures.low
