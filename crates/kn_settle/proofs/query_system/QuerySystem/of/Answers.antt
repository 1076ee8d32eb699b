use Rattle.kn_settle.proofs.QuerySystems.{query_system-system}
use Rattle.kn_settle.proofs.query_system.QuerySystem.of.Goals as goal

pub invariant_of-result : goal.invariant_of-result
invariant_of-result g c = (
  query_system-system c.args.base.now c.args.levels c.args.requesters.now (g.C.Ceilings.each c.args.ceilings.now)
      c.levels-levels.ensures.well_formed c.requires.at_least_two c.requires.at_most c.requires.others c.requires.low,
  c.requires.one_each,
)
