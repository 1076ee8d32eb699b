use Rattle.kn_verify.proofs.OneReason.{one_reason, not_both}
use Rattle.kn_verify.proofs.laws.one_verdict.Goals as goal

pub returns-clause-reason : goal.returns-clause-reason
returns-clause-reason c = one_reason

pub returns-clause-not_both : goal.returns-clause-not_both
returns-clause-not_both c = not_both
