use Rattle.std.proofs.Common.{◌∙◌, None, option_map}
use Rattle.kn_daemon.specs.Shapes.{AddText}
use Rattle.kn_transcript.specs.Judging.{state_of}
use Rattle.kn_transcript.proofs.VerdictLaws.{update_unshown}
use Rattle.kn_transcript.proofs.PlaceLaws.{none_behind, some_behind}
use Rattle.kn_transcript.proofs.UpdatingLaws.{add_unread, add_unadmitted, none_of, add_made, add_refused}
use Rattle.kn_transcript.proofs.updating.judge_add.Goals as goal

pub returns-then-not-connection : goal.returns-then-not-connection
returns-then-not-connection c = record {
  judged = update_unshown c.args.book.now (state_of c.args.connection.now) (AddText c.args.text.now) c.args.left.now
      c.behind_reply.result (λ found. option_map (λ rest. rest.now) found) c.if-not-connection.true
      c.behind_reply.ensures.behind;
}

pub returns-in-Err : goal.returns-in-Err
returns-in-Err c = record {
  judged = add_unread c.args.book.now (state_of c.args.connection.now) c.args.text.now c.args.left.now
      c.if-not-connection.false c.behind_refusal.result (λ found. option_map (λ rest. rest.now) found) c.in-Err.fault
      c.refusal_of_text.result c.in-Err.ensures.err c.refusal_of_text.ensures c.behind_refusal.ensures.behind;
}

pub returns-in-Some : goal.returns-in-Some
returns-in-Some c = record {
  judged = add_unadmitted c.args.book.now (state_of c.args.connection.now) c.args.text.now c.args.left.now
      c.if-not-connection.false c.in-Ok.assertion c.in-Ok.ensures.ok c.in-Some.rest.now
      (some_behind (λ rest. rest.now) None c.args.left.now c.in_ok-rest.field-0 c.in-Some.rest c.in-Some.is
      c.in_ok-rest.ensures.behind);
}

pub returns-in-Ok-prepare_add : goal.returns-in-Ok-prepare_add
returns-in-Ok-prepare_add c =
    let past = c.args.book.now in
    let old = state_of c.args.connection.now in
    let text = c.args.text.now in
    let left = c.args.left.now in
    record {
      judged = add_made past old text left c.if-not-connection.false c.in-Ok.assertion c.in-Ok.ensures.ok
          (none_of past old text left c.if-not-connection.false c.in-Ok.assertion c.in-Ok.ensures.ok
          (none_behind (λ rest. rest.now) None left c.in_ok-rest.field-0 c.in-None.is c.in_ok-rest.ensures.behind))
          c.behind_reply-in-Ok-prepare_add.result (λ found. option_map (λ rest. rest.now) found) c.in_ok-ready.ready
          c.commit-done.new.self c.commit-done.result.id c.commit-done.result.version c.in_ok-ready.ensures.text
          (c.commit-done.ensures.log ∙ c.in-Ok-prepare_add.ensures.log) c.in-Ok-prepare_add.ensures.follows
          (c.commit-done.ensures.id ∙ c.in-Ok-prepare_add.ensures.id) c.commit-done.ensures.version
          c.behind_reply-in-Ok-prepare_add.ensures.behind;
    }

pub returns-in-Err-prepare_add : goal.returns-in-Err-prepare_add
returns-in-Err-prepare_add c =
    let past = c.args.book.now in
    let old = state_of c.args.connection.now in
    let text = c.args.text.now in
    let left = c.args.left.now in
    record {
      judged = add_refused past old text left c.if-not-connection.false c.in-Ok.assertion c.in-Ok.ensures.ok
          (none_of past old text left c.if-not-connection.false c.in-Ok.assertion c.in-Ok.ensures.ok
          (none_behind (λ rest. rest.now) None left c.in_ok-rest.field-0 c.in-None.is c.in_ok-rest.ensures.behind))
          c.behind_refusal-in-Err-prepare_add.result (λ found. option_map (λ rest. rest.now) found) c.in_ok-ready.ready
          c.prepare_add.new.self c.in-Err-prepare_add.fault c.refusal_of_store.result c.in_ok-ready.ensures.text
          c.prepare_add.ensures.kept c.in-Err-prepare_add.ensures.refused c.refusal_of_store.ensures
          c.behind_refusal-in-Err-prepare_add.ensures.behind;
    }
