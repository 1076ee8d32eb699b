use Rattle.std.proofs.Common.{arith}
use Rattle.kn_principal.specs.Principals.{policy}
use Rattle.kn_query.proofs.FoundValues.{in-some}
use Rattle.kn_query.proofs.level.find_level.Goals as goal

pub returns-then-branch-clause-below : goal.returns-then-branch-clause-below
returns-then-branch-clause-below c =
    let was = (in-some _ _ _ c.in-Some.is c.requires.known).level in
    let within = c.every_query_has_a_level.ensures.within _ was.levels was.least policy in
    omega (arith, within, was.here, c.len-values.ensures.at_least_two)
