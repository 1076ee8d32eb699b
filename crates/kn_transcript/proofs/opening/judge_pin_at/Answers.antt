use Rattle.std.proofs.Common.{◌≡◌, ◌∙◌, Some, ap, sym, arith, option_map, List}
use Rattle.std.specs.Arc.{arc_value}
use Rattle.kn_history.specs.declared.update.Update.{Update}
use Rattle.kn_history.specs.Retained.{retained_version}
use Rattle.kn_session.specs.Views.{session_of_view}
use Rattle.kn_transcript.specs.Judging.{state_of}
use Rattle.kn_transcript.proofs.OpeningLaws.{pin_at_unknown, pin_at_missing, pin_at_done}
use Rattle.kn_transcript.proofs.opening.judge_pin_at.Goals as goal

pub returns-in-Err : goal.returns-in-Err
returns-in-Err c = record {
  judged = pin_at_unknown c.args.book.now c.args.left.now c.behind_reply.result
      (λ found. option_map (λ rest. rest.now) found)
      (state_of c.args.connection.now) c.args.s c.args.version c.in-Err.field-0 c.in-Err.ensures.fault
      c.behind_reply.ensures.behind;
}

pub returns-in_default : goal.returns-in_default
returns-in_default c = record {
  judged = pin_at_missing c.args.book.now c.args.left.now c.behind_reply-in_default.result
      (λ found. option_map (λ rest. rest.now) found) (state_of c.args.connection.now) c.args.s c.args.version
      c.length-newest.result (session_of_view c.in-Ok.field-0) c.in-Ok.ensures.session (sym c.in_default.ensures)
      c.length-newest.ensures.length c.behind_reply-in_default.ensures.behind;
}

pub returns : goal.returns
returns c =
    let made : retained_version c.args.book.now c.args.version ≡ Some (arc_value c.in-Some.retained.now) =
    sym c.in-Some.ensures in
    let same : arc_value c.in-Ok-clone.pinned ≡ arc_value c.in-Some.retained.now =
    grind (arith, c.in-Ok-clone.ensures.cases) in
    record {
      judged = pin_at_done c.args.book.now c.args.left.now c.behind_reply-in-Ok-repin.result
          (λ found. option_map (λ rest. rest.now) found) c.args.connection.now.sessions c.repin.new.self
          c.args.connection.now.is_admin c.args.s c.args.version c.length-newest.result (arc_value c.in-Ok-clone.pinned)
          (made ∙ ap (λ (u : List Update). Some u) (sym same)) c.length-newest.ensures.length
          c.in-Ok-repin.ensures.accepted
          c.in-Ok-repin.ensures.ok c.behind_reply-in-Ok-repin.ensures.behind;
    }
