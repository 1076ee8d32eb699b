use Rattle.std.proofs.Common.{refl, option_map, ◌∙◌, sym}
use Rattle.kn_wire.specs.Wired.{request_of}
use Rattle.kn_transcript.proofs.RequestLaws.{moved_on}
use Rattle.kn_transcript.proofs.answering.judge_request.Goals as goal

pub returns : goal.returns
returns c = record {
  judged = moved_on c.args.progress.now
      (record c.args.progress.now { book = c.judge_reply.new.book; connection = c.judge_reply.new.connection })
      c.move_on.new.progress (request_of c.args.request) c.args.number (sym c.is_foreign.ensures
      ∙ c.if-is_foreign.false) refl refl
      (option_map (λ rest. rest.now) c.in_ok-found.found) c.move_on.result c.in_ok-found.ensures.judged
      c.move_on.ensures.moved;
}
