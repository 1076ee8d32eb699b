use Rattle.std.proofs.Common.{option_map, inl, inr}
use Rattle.kn_wire.specs.Hex.{bytes_of_hex}
use Rattle.kn_reply.specs.Replies.{Done, reply_text}
use Rattle.kn_transcript.specs.Judging.{state_of}
use Rattle.kn_transcript.proofs.AdmittingLaws.{secret_taken, wrong_judged, no_bytes, cut_of, missing_of}
use Rattle.kn_transcript.proofs.connection_replies.judge_secret.Goals as goal

pub returns-then-digits-lt2 : goal.returns-then-digits-lt2
returns-then-digits-lt2 c = record {
  judged = λ past. wrong_judged past (state_of c.args.connection.now) (bytes_of_hex c.args.digits.now)
      c.args.left.now
      c.behind_reply.result (λ found. option_map (λ rest. rest.now) found)
      (inl (no_bytes c.args.digits.now c.if-digits-lt2.true))
      c.behind_reply.ensures.behind;
}

pub returns-in-Some : goal.returns-in-Some
returns-in-Some c = record {
  judged = λ past. secret_taken past (state_of c.args.connection.now) c.args.digits.now c.args.left.now
      c.in-Some.rest.now
      c.if-digits-lt2.false
      (cut_of (λ rest. rest.now) c.args.left.now (reply_text Done) c.in_ok-rest.field-0 c.in-Some.rest c.in-Some.is
      c.in_ok-rest.ensures.behind);
}

pub returns-in-None : goal.returns-in-None
returns-in-None c = record {
  judged = λ past. wrong_judged past (state_of c.args.connection.now) (bytes_of_hex c.args.digits.now)
      c.args.left.now
      c.behind_reply-in-None.result (λ found. option_map (λ rest. rest.now) found)
      (inr (missing_of (λ rest. rest.now) c.args.left.now (reply_text Done) c.in_ok-rest.field-0 c.in-None.is
      c.in_ok-rest.ensures.behind))
      c.behind_reply-in-None.ensures.behind;
}
