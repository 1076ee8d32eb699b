use Rattle.std.proofs.Common.{ap, ◌∙◌}
use Rattle.kn_outside.specs.InMemory.{SinkInMemory}
use Rattle.kn_outside.specs.Printing.{is_whole}
use Rattle.kn_reply.specs.Replies.{reply_of, reply_text}
use Rattle.kn_transcript.proofs.MatchingLaws.{behind_written, written_whole}
use Rattle.kn_transcript.proofs.matching.behind_reply.Goals as goal

pub returns-in-Ok : goal.returns-in-Ok
returns-in-Ok c =
    let text = reply_text (reply_of c.args.reply.now) in
    record {
      behind = behind_written (λ rest. rest.now) c.args.left.now text c.written.result.now c.behind.result
          (c.written.ensures
          ∙ written_whole _ text c.of-sink.result c.print.new.out (ap is_whole c.in-Ok.is) c.print.ensures
          (ap (λ (s : SinkInMemory). s.written) c.of-sink.ensures))
          c.behind.ensures;
    }
