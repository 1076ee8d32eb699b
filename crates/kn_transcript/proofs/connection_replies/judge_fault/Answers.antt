use Rattle.std.proofs.Common.{option_map}
use Rattle.kn_transcript.proofs.AdmittingLaws.{fault_judged}
use Rattle.kn_transcript.proofs.connection_replies.judge_fault.Goals as goal

pub returns : goal.returns
returns c = record {
  judged = λ past now. fault_judged past c.args.left.now c.behind_reply.result
      (λ found. option_map (λ rest. rest.now) found) now
      c.args.fault c.refusal_of_fault.result c.refusal_of_fault.ensures c.behind_reply.ensures.behind;
}
