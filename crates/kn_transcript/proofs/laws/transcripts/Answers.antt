use Rattle.kn_transcript.proofs.Follows.{runs-are_followed, values-are_least}
use Rattle.kn_transcript.proofs.VersionLaws.{versions-are_told}
use Rattle.kn_transcript.proofs.laws.transcripts.Goals as goal

pub returns-clause-runs : goal.returns-clause-runs
returns-clause-runs c = runs-are_followed

pub returns-clause-values : goal.returns-clause-values
returns-clause-values c = values-are_least

pub returns-clause-versions : goal.returns-clause-versions
returns-clause-versions c = versions-are_told
