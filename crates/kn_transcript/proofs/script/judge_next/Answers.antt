use Rattle.std.proofs.Common.{◌∙◌, Bool, Option, None, sym, subst}
use Rattle.std.specs.Prelude.{Ok}
use Rattle.std.proofs.lemmas.Result.{err_from_is_err_and}
use Rattle.kn_wire.specs.Feeding.{Held}
use Rattle.kn_wire.specs.Feeds.{held}
use Rattle.kn_play.specs.Playing.{IsFed}
use Rattle.kn_transcript.specs.Progress.{IsNextJudged}
use Rattle.kn_transcript.proofs.ScriptLaws.{one_taken, one_missed, none_left}
use Rattle.kn_transcript.proofs.script.judge_next.Goals as goal

pub returns-in-Some : goal.returns-in-Some
returns-in-Some c = λ requests fed.
    one_taken c.args.script.now requests c.args.number c.args.progress.now c.pieces.progress c.pieces.from
    (held c.pieces.feed)
    c.judge_held.new.progress (held c.judge_held.new.feed) c.pieces.invariant.same (c.pieces.invariant.fed requests fed)
    c.in-Some.is_last
    (subst (λ (o : Option Bool). IsNextJudged c.args.number c.pieces.progress (held c.pieces.feed)
    c.judge_held.new.progress (held c.judge_held.new.feed) (Ok o))
    c.in-Some.is c.in_ok-is_last.ensures)

pub returns-in_err-is_last : goal.returns-in_err-is_last
returns-in_err-is_last c = λ requests fed.
    let told = err_from_is_err_and c.from_residual.result c.from_residual.ensures.1 in
    rw (told.1, told.2)
    (one_missed c.args.script.now requests c.args.number c.args.progress.now c.pieces.progress c.pieces.from
    (held c.pieces.feed)
    c.judge_held.new.progress (held c.judge_held.new.feed) c.pieces.invariant.same (c.pieces.invariant.fed requests fed)
    c.in_err-is_last.field-0.0 c.in_err-is_last.ensures)

pub returns-then-from-script : goal.returns-then-from-script
returns-then-from-script c = λ requests fed.
    none_left c.args.script.now requests c.args.number c.args.progress.now c.pieces.progress c.pieces.from
    (held c.pieces.feed)
    c.judge_held.new.progress (held c.judge_held.new.feed) c.pieces.invariant.same (c.pieces.invariant.fed requests fed)
    c.if-from-script.true
    (subst (λ (o : Option Bool). IsNextJudged c.args.number c.pieces.progress (held c.pieces.feed)
    c.judge_held.new.progress (held c.judge_held.new.feed) (Ok o))
    c.in-None.is c.in_ok-is_last.ensures)

pub pieces-preserved : goal.pieces-preserved
pieces-preserved c =
    let a : IsNextJudged c.args.number c.pieces.progress (held c.pieces.feed) c.judge_held.new.progress
    (held c.judge_held.new.feed) (Ok None) =
    subst (λ (o : Option Bool). IsNextJudged c.args.number c.pieces.progress (held c.pieces.feed)
    c.judge_held.new.progress (held c.judge_held.new.feed) (Ok o))
    c.in-None.is c.in_ok-is_last.ensures in
    record {
      same = a.2 ∙ c.pieces.invariant.same;
      within = c.push_chunk.ensures.within;
      fed = λ requests fed.
          c.push_chunk.ensures.fed requests
          (subst (λ (h : Held). IsFed c.args.script.now c.pieces.from h requests) (sym a.1)
          (c.pieces.invariant.fed requests fed));
    }
