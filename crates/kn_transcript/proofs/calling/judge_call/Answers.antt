use Rattle.std.proofs.Common.{ap, option_map}
use Rattle.kn_reply.specs.Replies.{reply_of, reply_text}
use Rattle.kn_daemon.specs.CallFaults.{reply_of_applied}
use Rattle.kn_session.specs.Calls.{call_of}
use Rattle.kn_transcript.proofs.DueReplies.{as_text}
use Rattle.kn_transcript.proofs.CallingLaws.{state_with, private_few, call_done, call_untaken}
use Rattle.kn_transcript.proofs.calling.judge_call.Goals as goal

pub apply-requires : goal.apply-requires
apply-requires c =
    let old = c.args.connection.now in
    record { few = λ text is. private_few (state_with old.sessions old.is_admin) c.args.s c.requires.room }

pub returns-in-Ok : goal.returns-in-Ok
returns-in-Ok c =
    let old = c.args.connection.now in
    record {
      judged = λ past. call_done past old.sessions c.apply.new.self old.is_admin c.args.s (call_of c.args.call)
          c.args.left.now
          c.behind_reply.result (λ found. option_map (λ rest. rest.now) found) c.in-Ok.applied c.in-Ok.ensures.ok
          (as_text c.behind_reply.result (λ found. option_map (λ rest. rest.now) found) c.args.left.now
          (reply_text (reply_of c.reply_of_applied.result)) (reply_text (reply_of_applied c.in-Ok.applied))
          (ap reply_text c.reply_of_applied.ensures) c.behind_reply.ensures.behind);
    }

pub returns-in-Err : goal.returns-in-Err
returns-in-Err c =
    let old = c.args.connection.now in
    record {
      judged = λ past. call_untaken past old.sessions c.apply.new.self old.is_admin c.args.s (call_of c.args.call)
          c.args.left.now
          c.behind_refusal.result (λ found. option_map (λ rest. rest.now) found) c.in-Err.fault
          c.refusal_of_call_fault.result c.in-Err.ensures.err c.refusal_of_call_fault.ensures
          c.behind_refusal.ensures.behind;
    }
