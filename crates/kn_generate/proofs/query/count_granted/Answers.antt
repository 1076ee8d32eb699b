use Rattle.std.proofs.Common.{◌≡◌, ◌+◌, ◌<◌, ◌≤◌, length, arith}
use Rattle.kn_generate.proofs.QueryLemmas.{granted_count_more}
use Rattle.kn_generate.proofs.query.count_granted.Goals as goal

pub loop-principal-preserved : goal.loop-principal-preserved
loop-principal-preserved c =
    let few = c.count_if_granted-count.ensures.few in
    let before = c.loop-principal.invariant.1 in
    let test = c.loop-principal-test.true in
    let end = c.principals-principal-end.ensures.exact in
    let below : c.loop-principal.principal < length c.args.system.now.requesters = omega (arith, test, end) in (
      granted_count_more c.args.system.now.requesters c.args.levels.now c.loop-principal.principal
          c.loop-principal.count c.count_if_granted-count.result _ below c.requires.one_each
          c.count_if_granted-count.ensures.one c.loop-principal.invariant.0,
      omega (arith, few, before),
    )
