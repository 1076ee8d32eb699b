use Rattle.kn_transcript.proofs.OneVerdictLaws.{one-verdict}
use Rattle.kn_transcript.proofs.laws.one_verdict.Goals as goal

pub returns : goal.returns
returns c = one-verdict
