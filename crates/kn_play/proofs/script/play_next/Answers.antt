use Rattle.std.proofs.Common.{None, sym, ◌∙◌, subst}
use Rattle.kn_wire.specs.Feeds.{held}
use Rattle.kn_play.specs.Playing.{IsFed, PlaysNext}
use Rattle.kn_play.proofs.ScriptLoops.{next-taken, next-dry}
use Rattle.kn_play.proofs.script.play_next.Goals as goal

-- src/script.rt:32:27
pub returns-in-Some : goal.returns-in-Some
returns-in-Some c = λ requests fed.
    next-taken c.args.book.now c.args.script.now requests c.args.sessions.now c.pieces.sessions c.pieces.from
    (held c.pieces.feed) (held c.answer_next.new.feed) c.answer_next.new.sessions
    c.in_ok-step.field-0 c.in-Some.step c.pieces.invariant.same (c.pieces.invariant.fed requests fed)
    c.in_ok-step.ensures c.in-Some.is

-- src/script.rt:35:21
pub returns-then-from-script : goal.returns-then-from-script
returns-then-from-script c = λ requests fed.
    next-dry c.args.book.now c.args.script.now requests c.args.sessions.now c.pieces.sessions c.pieces.from
    (held c.pieces.feed) (held c.answer_next.new.feed) c.answer_next.new.sessions
    c.in_ok-step.field-0 c.pieces.invariant.same (c.pieces.invariant.fed requests fed) c.if-from-script.true
    c.in_ok-step.ensures c.in-None.is

-- src/script.rt:30:5
pub pieces-preserved : goal.pieces-preserved
pieces-preserved c =
    let a : PlaysNext c.args.book.now c.pieces.sessions (held c.pieces.feed) c.answer_next.new.sessions
    (held c.answer_next.new.feed) None =
    subst (PlaysNext c.args.book.now c.pieces.sessions (held c.pieces.feed) c.answer_next.new.sessions
    (held c.answer_next.new.feed)) c.in-None.is c.in_ok-step.ensures in
    record {
      same = a.2 ∙ c.pieces.invariant.same;
      within = c.push_chunk.ensures.within;
      fed = λ requests fed.
          c.push_chunk.ensures.fed requests
          (subst (λ h. IsFed c.args.script.now c.pieces.from h requests) (sym a.1)
          (c.pieces.invariant.fed requests fed));
    }
