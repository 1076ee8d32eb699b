use Rattle.std.proofs.Common.{subst, sym}
use Rattle.std.proofs.lemmas.Result.{IfOk-weaker}
use Rattle.kn_rows.specs.Numbering.{AreDistinct}
use Rattle.kn_query.proofs.query.build_query.Goals as goal

-- the ids are those of the parts, which differ
pub returns-clause-ids : goal.returns-clause-ids
returns-clause-ids c =
    IfOk-weaker c.build.result _ _ (λ built same. subst AreDistinct (sym same) c.in_ok-parts.ensures.ids)
    c.build.ensures.ids
