use Rattle.std.proofs.Common.{arith}
use Rattle.kn_meaning.proofs.worked.least_levels_are_one.Goals as goal

pub returns : goal.returns
returns c e at other least others name =
    let below = least.least other (λ n. omega (arith, others.solves n)) name in
    let above = others.least at (λ n. omega (arith, least.solves n)) name in
    omega (arith, below, above)
