use Rattle.std.proofs.Common.{◌∙◌, option_map}
use Rattle.kn_daemon.specs.Shapes.{DropId}
use Rattle.kn_transcript.specs.Judging.{state_of}
use Rattle.kn_transcript.proofs.VerdictLaws.{update_unshown}
use Rattle.kn_transcript.proofs.UpdatingLaws.{drop_made, drop_refused}
use Rattle.kn_transcript.proofs.updating.judge_drop.Goals as goal

pub returns-then-not-connection : goal.returns-then-not-connection
returns-then-not-connection c = record {
  judged = update_unshown c.args.book.now (state_of c.args.connection.now) (DropId c.args.k) c.args.left.now
      c.behind_reply.result (λ found. option_map (λ rest. rest.now) found) c.if-not-connection.true
      c.behind_reply.ensures.behind;
}

pub returns-in-Ok : goal.returns-in-Ok
returns-in-Ok c = record {
  judged = drop_made c.args.book.now (state_of c.args.connection.now) c.args.k c.args.left.now c.if-not-connection.false
      c.behind_reply-in-Ok.result (λ found. option_map (λ rest. rest.now) found) c.commit-version.new.self
      c.commit-version.result.version
      (c.commit-version.ensures.log ∙ c.in-Ok.ensures.log) c.in-Ok.ensures.follows c.commit-version.ensures.version
      c.behind_reply-in-Ok.ensures.behind;
}

pub returns-in-Err : goal.returns-in-Err
returns-in-Err c = record {
  judged = drop_refused c.args.book.now (state_of c.args.connection.now) c.args.k c.args.left.now
      c.if-not-connection.false
      c.behind_refusal.result (λ found. option_map (λ rest. rest.now) found) c.prepare_drop.new.self c.in-Err.fault
      c.refusal_of_store.result c.prepare_drop.ensures.kept c.in-Err.ensures.refused c.refusal_of_store.ensures
      c.behind_refusal.ensures.behind;
}
