use Rattle.std.proofs.Common.{◌<◌, ◌+◌, arith}
use Rattle.kn_reply.specs.Replies.{No, reply_text}
use Rattle.kn_transcript.specs.declared.fault.TheConstants.{AUTH_FAULTS}
use Rattle.kn_transcript.proofs.AdmittingLaws.{cut_of, missing_of}
use Rattle.kn_transcript.proofs.PlaceLaws.{verdict_more, verdict_found}
use Rattle.kn_transcript.proofs.verdicts.behind_verdict.Goals as goal

pub loop-fault-preserved : goal.loop-fault-preserved
loop-fault-preserved c =
    let some = c.loop-fault.invariant.0 in (
      omega (arith, some),
      verdict_more c.args.item c.args.left.now c.loop-fault.fault c.loop-fault.invariant.1 c.tell_verdict-refusal.result
          c.tell_verdict-refusal.ensures
          (missing_of (λ rest. rest.now) c.args.left.now (reply_text (No c.tell_verdict-refusal.result))
          c.in_ok-rest.field-0 c.in-None.is c.in_ok-rest.ensures.behind),
    )

pub returns-in-Some : goal.returns-in-Some
returns-in-Some c =
    let within : c.loop-fault.fault < AUTH_FAULTS + 1 = c.loop-fault-test.true in
    record {
      behind = verdict_found c.args.item c.args.left.now c.in-Some.rest.now c.loop-fault.fault
          c.tell_verdict-refusal.result
          (c.loop-fault.invariant.0, omega (arith, within)) c.tell_verdict-refusal.ensures
          (cut_of (λ rest. rest.now) c.args.left.now (reply_text (No c.tell_verdict-refusal.result))
          c.in_ok-rest.field-0
          c.in-Some.rest c.in-Some.is c.in_ok-rest.ensures.behind);
    }

pub returns : goal.returns
returns c = record {
  behind = λ fault rest is.
      let few = is.1 in
      c.loop-fault.invariant.1 fault rest is.0 (omega (arith, few, c.loop-fault-test.false));
}
