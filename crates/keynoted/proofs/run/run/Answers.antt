use Rattle.keynoted.proofs.RunLaws.{specified}
use Rattle.keynoted.proofs.run.run.Goals as goal

pub returns : goal.returns
returns g c =
    specified _ _ _ _ _ _ c.dispatch.ensures c.last_query_is_one.ensures c.one_ending.ensures.no_other
    c.one_verdict.ensures
