use Rattle.std.proofs.Common.{◌≡◌, arith, option_map}
use Rattle.std.specs.Arc.{arc_value}
use Rattle.kn_transcript.specs.Judging.{state_of}
use Rattle.kn_transcript.proofs.OpeningLaws.{open_full, open_started}
use Rattle.kn_transcript.proofs.opening.judge_open.Goals as goal

pub returns-then-count-ge-SESSIONS : goal.returns-then-count-ge-SESSIONS
returns-then-count-ge-SESSIONS c = record {
  judged = open_full c.args.book.now c.args.left.now c.behind_reply.result
      (λ found. option_map (λ rest. rest.now) found)
      (state_of c.args.connection.now) c.len-count.result c.len-count.ensures c.if-count-ge-SESSIONS.true
      c.behind_reply.ensures.behind;
}

pub returns-in-Ok-start : goal.returns-in-Ok-start
returns-in-Ok-start c =
    let seen : arc_value c.in-Ok.newest ≡ c.args.book.now =
    grind (arith, c.in-Ok.ensures.cases, c.snapshot.ensures.version) in
    record {
      judged = open_started c.args.book.now c.args.left.now c.behind_reply-in-Ok-start.result
          (λ found. option_map (λ rest. rest.now) found) c.args.connection.now.sessions c.start.new.self
          c.args.connection.now.is_admin c.in-Ok-start.s c.length-version.result (arc_value c.in-Ok.newest) seen
          c.length-version.ensures.length c.in-Ok-start.ensures.accepted c.in-Ok-start.ensures.number
          c.in-Ok-start.ensures.ok
          c.behind_reply-in-Ok-start.ensures.behind;
    }
