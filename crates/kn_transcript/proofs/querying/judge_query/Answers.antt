use Rattle.std.proofs.Common.{◌∙◌, option_map}
use Rattle.kn_session.specs.Views.{session_of_view}
use Rattle.kn_transcript.specs.Judging.{state_of}
use Rattle.kn_transcript.proofs.QueryingLaws.{query_unknown, query_unnamed, value_judged}
use Rattle.kn_transcript.proofs.querying.judge_query.Goals as goal

pub returns-in-Err : goal.returns-in-Err
returns-in-Err c = record {
  judged = λ past. query_unknown past (state_of c.args.connection.now) c.args.s c.args.names.now c.args.left.now
      c.behind_reply.result (λ found. option_map (λ rest. rest.now) found) c.in-Err.field-0 c.in-Err.ensures.fault
      c.behind_reply.ensures.behind;
}

pub returns-in-Some : goal.returns-in-Some
returns-in-Some c = record {
  judged = λ past. value_judged past (state_of c.args.connection.now) c.args.s c.args.names.now c.args.left.now
      (session_of_view c.in-Ok.view) c.in-Some.values c.in-Ok.ensures.session (c.in_ok-values.ensures ∙ c.in-Some.is)
      c.judge_value.result (λ found. option_map (λ rest. rest.now) found) c.judge_value.ensures.judged;
}

pub returns-in-None : goal.returns-in-None
returns-in-None c = record {
  judged = λ past. query_unnamed past (state_of c.args.connection.now) c.args.s c.args.names.now c.args.left.now
      c.behind_reply-in-None.result (λ found. option_map (λ rest. rest.now) found) (session_of_view c.in-Ok.view)
      c.in-Ok.ensures.session (c.in_ok-values.ensures ∙ c.in-None.is) c.behind_reply-in-None.ensures.behind;
}
