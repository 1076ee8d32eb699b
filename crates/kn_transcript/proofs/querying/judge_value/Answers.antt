use Rattle.kn_session.specs.Views.{session_of_view}
use Rattle.kn_transcript.proofs.QueryingLaws.{found_there, none_there, unproved}
use Rattle.kn_transcript.proofs.querying.judge_value.Goals as goal

pub returns-in_default : goal.returns-in_default
returns-in_default c = record {
  judged = λ reply rest at proved. none_there c.in_ok-value.field-0 reply rest c.in_default.is
      (c.in_ok-value.ensures.only reply rest at);
}

pub returns : goal.returns
returns c = record {
  judged = λ reply rest at.
      let there = found_there c.in_ok-value.field-0 c.in-Some.value reply rest c.in-Some.is
      (c.in_ok-value.ensures.only reply rest at) in
      unproved (session_of_view c.args.view.now) c.args.values.now c.in-Some.value.reply reply c.in_ok-is_proved.field-0
      there c.in_ok-is_proved.ensures c.if-branch.false;
}
