use Rattle.std.proofs.Common.{subst}
use Rattle.std.proofs.lemmas.Result.{IfOk-weaker}
use Rattle.kn_watch.specs.Unaffected.{IsKnown, IsUnaffected}
use Rattle.kn_answer.specs.Based.{BaseView}
use Rattle.kn_answer.proofs.UnaffectedBases.{keeps-policy_level}
use Rattle.kn_answer.proofs.base.Base.keeps_policy_level.Goals as goal

pub returns-clause-kept : goal.returns-clause-kept
returns-clause-kept c =
    IfOk-weaker c.is_unaffected.result _ _
    (λ keeps found is. keeps-policy_level c.unaffected_keep_level.ensures c.args.self.now c.args.rows.now
    (subst (λ (b : BaseView). IsUnaffected b.system c.args.rows.now 0) c.self.view_is (found is)))
    c.is_unaffected.ensures.unaffected

pub returns-clause-known : goal.returns-clause-known
returns-clause-known c =
    IfOk-weaker c.is_unaffected.result _ _
    (λ keeps known. subst (λ (b : BaseView). IsKnown b.system c.args.rows.now 0 64 keeps) c.self.view_is known)
    c.is_unaffected.ensures.known
