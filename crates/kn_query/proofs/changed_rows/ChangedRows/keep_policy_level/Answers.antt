use Rattle.std.proofs.Common.{◌≡◌, ℕ, true, List, subst}
use Rattle.std.specs.Prelude.{IfOk}
use Rattle.kn_answer.specs.Unaffected.{KeepsPolicyLevel}
use Rattle.kn_query.proofs.changed_rows.ChangedRows.keep_policy_level.Goals as goal

pub returns-clause-kept : goal.returns-clause-kept
returns-clause-kept c =
    subst (λ (rows : List ℕ).
    IfOk c.keeps_policy_level.result (λ keep. keep ≡ true → KeepsPolicyLevel rows c.args.base.now))
    c.as_slice.ensures.value c.keeps_policy_level.ensures.kept
