use Rattle.std.proofs.Common.{refl, option_map}
use Rattle.kn_wire.specs.Requests.{Faulty}
use Rattle.kn_daemon.specs.Shapes.{AtFault}
use Rattle.kn_transcript.specs.Judging.{state_of}
use Rattle.kn_transcript.proofs.RequestLaws.{moved_on, never_memory}
use Rattle.kn_transcript.proofs.answering.judge_refused.Goals as goal

pub returns : goal.returns
returns c = record {
  judged = moved_on c.args.progress.now c.args.progress.now c.move_on.new.progress (Faulty c.args.fault) c.args.number
      refl refl refl
      (option_map (λ rest. rest.now) c.in_ok-found.found) c.move_on.result
      (never_memory c.args.progress.now.book (state_of c.args.progress.now.connection) (AtFault c.args.fault)
      c.args.progress.now.left.now
      c.args.progress.now.book (state_of c.args.progress.now.connection)
      (option_map (λ rest. rest.now) c.in_ok-found.found) refl
      (c.in_ok-found.ensures.judged c.args.progress.now.book (state_of c.args.progress.now.connection)))
      c.move_on.ensures.moved;
}
