use Rattle.std.proofs.Common.{option_map}
use Rattle.kn_transcript.proofs.AdmittingLaws.{bye_judged}
use Rattle.kn_transcript.proofs.connection_replies.judge_bye.Goals as goal

pub returns : goal.returns
returns c = record {
  judged = λ past now. bye_judged past c.args.left.now c.behind_reply.result
      (λ found. option_map (λ rest. rest.now) found) now
      c.behind_reply.ensures.behind;
}
