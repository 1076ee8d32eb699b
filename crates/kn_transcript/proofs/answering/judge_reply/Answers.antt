use Rattle.std.proofs.Common.{option_map, sym, ◌∙◌, ap}
use Rattle.kn_wire.specs.Wired.{request_of}
use Rattle.kn_daemon.specs.Shapes.{shape_of}
use Rattle.kn_daemon.specs.Daemon.{may_lack_memory}
use Rattle.kn_transcript.specs.Judging.{state_of}
use Rattle.kn_transcript.proofs.RequestLaws.{memory_taken, others_ok}
use Rattle.kn_transcript.proofs.answering.judge_reply.Goals as goal

pub returns-then-may_lack_memory : goal.returns-then-may_lack_memory
returns-then-may_lack_memory c =
    record {
      judged = memory_taken c.args.book.now (state_of c.args.connection.now) (shape_of (request_of c.args.request))
          c.args.left.now c.in-Some.rest.now
          c.in-Some.ensures (ap may_lack_memory c.shape_of.ensures.shape ∙ sym c.may_lack_memory.ensures
          ∙ c.if-may_lack_memory.true);
    }

pub returns-in-None : goal.returns-in-None
returns-in-None c =
    record {
      judged = others_ok c.args.book.now (state_of c.args.connection.now) (shape_of (request_of c.args.request))
          c.args.left.now c.judge.new.book (state_of c.judge.new.connection)
          c.judge.result (λ found. option_map (λ rest. rest.now) found) c.in-None.ensures c.judge.ensures.judged;
    }
