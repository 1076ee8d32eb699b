use Rattle.std.proofs.Common.{◌≡◌, arith, option_map}
use Rattle.std.specs.Arc.{arc_value}
use Rattle.kn_transcript.proofs.OpeningLaws.{pin_done, pin_refused}
use Rattle.kn_transcript.proofs.opening.judge_pin.Goals as goal

pub returns-in-Ok-repin : goal.returns-in-Ok-repin
returns-in-Ok-repin c =
    let seen : arc_value c.in-Ok.newest ≡ c.args.book.now =
    grind (arith, c.in-Ok.ensures.cases, c.snapshot.ensures.version) in
    record {
      judged = pin_done c.args.book.now c.args.left.now c.behind_reply.result
          (λ found. option_map (λ rest. rest.now) found)
          c.args.connection.now.sessions c.repin.new.self c.args.connection.now.is_admin c.args.s
          c.length-version.result
          (arc_value c.in-Ok.newest) seen c.length-version.ensures.length c.in-Ok-repin.ensures.accepted
          c.in-Ok-repin.ensures.ok
          c.behind_reply.ensures.behind;
    }

pub returns-in-Err : goal.returns-in-Err
returns-in-Err c = record {
  judged = pin_refused c.args.book.now c.args.left.now c.behind_reply-in-Err.result
      (λ found. option_map (λ rest. rest.now) found) c.args.connection.now.sessions c.repin.new.self
      c.args.connection.now.is_admin c.args.s c.in-Err.field-0 c.in-Err.ensures.err c.in-Err.ensures.fault
      c.behind_reply-in-Err.ensures.behind;
}
