use Rattle.std.proofs.Common.{◌≤◌, ◌∙◌, ◌+◌, Bool, Option, Some, None, [], ◌∷◌, ◌++◌, length, sym, subst, arith}
use Rattle.std.specs.Prelude.{Ok}
use Rattle.std.proofs.lemmas.Result.{err_from_is_err_and}
use Rattle.kn_wire.specs.Feeds.{held}
use Rattle.kn_transcript.specs.declared.progress.Progress.{Progress}
use Rattle.kn_transcript.specs.Accepted.{requests_in}
use Rattle.kn_transcript.specs.Progress.{IsNextOfScript}
use Rattle.kn_transcript.proofs.VerifyingLaws.{has-room, shorter, shorter-next, faulty, goes-further, size-next, ended}
use Rattle.kn_transcript.proofs.VerifyingLaws.{dry, full}
use Rattle.kn_transcript.proofs.verifying.verify.Goals as goal

pub judge_next-requires-clause-room : goal.judge_next-requires-clause-room
judge_next-requires-clause-room c =
    let i = c.loop-before.invariant in
    has-room c.args.book c.args.script.now c.args.replies.now c.loop-before.from (held c.loop-before.feed) i.0
    c.loop-before.progress c.loop-before.before
    i.2 i.1 c.loop-before-test.true

pub returns-in_err-judge_next-clause-faulty : goal.returns-in_err-judge_next-clause-faulty
returns-in_err-judge_next-clause-faulty c =
    let i = c.loop-before.invariant in
    let m = c.in_err-judge_next.ensures (requests_in i.0) i.2.fed in
    let told = err_from_is_err_and c.from_residual-in_err-judge_next.result
    c.from_residual-in_err-judge_next.ensures.1 in
    rw (told.1, told.2)
    (faulty c.args.book c.args.script.now c.args.replies.now c.loop-before.from (held c.loop-before.feed) i.0
    c.loop-before.progress c.loop-before.before
    i.2 i.1 c.judge_next.new.from (held c.judge_next.new.feed) m.0 m.1 c.loop-before-test.true
    c.in_err-judge_next.field-0.0 m.2)

pub conclude-requires-clause-within : goal.conclude-requires-clause-within
conclude-requires-clause-within c =
    let i = c.loop-before.invariant in
    let s : IsNextOfScript c.args.script.now (requests_in i.0) (c.loop-before.before + 1) c.loop-before.progress
    c.judge_next.new.from (held c.judge_next.new.feed) c.judge_next.new.progress (Ok None) =
    subst (λ (o : Option Bool). IsNextOfScript c.args.script.now (requests_in i.0) (c.loop-before.before + 1)
    c.loop-before.progress c.judge_next.new.from (held c.judge_next.new.feed) c.judge_next.new.progress (Ok o))
    c.in-None.is (c.in_ok-judge_next.ensures (requests_in i.0) i.2.fed) in
    subst (λ (p : Progress). length p.left.now ≤ length c.args.replies.now) (sym s.1)
    (shorter c.args.book c.args.script.now c.args.replies.now c.loop-before.from (held c.loop-before.feed) i.0
    c.loop-before.progress c.loop-before.before
    i.2 i.1)

pub returns-in-None-clause-accepted : goal.returns-in-None-clause-accepted
returns-in-None-clause-accepted c =
    let i = c.loop-before.invariant in
    let s : IsNextOfScript c.args.script.now (requests_in i.0) (c.loop-before.before + 1) c.loop-before.progress
    c.judge_next.new.from (held c.judge_next.new.feed) c.judge_next.new.progress (Ok None) =
    subst (λ (o : Option Bool). IsNextOfScript c.args.script.now (requests_in i.0) (c.loop-before.before + 1)
    c.loop-before.progress c.judge_next.new.from (held c.judge_next.new.feed) c.judge_next.new.progress (Ok o))
    c.in-None.is (c.in_ok-judge_next.ensures (requests_in i.0) i.2.fed) in
    (dry c.args.book c.args.script.now c.args.replies.now c.loop-before.from (held c.loop-before.feed) i.0
    c.loop-before.progress c.loop-before.before
    i.2 i.1 c.judge_next.new.from (held c.judge_next.new.feed) c.judge_next.new.progress s.0 s.1
    (omega (arith, c.loop-before-test.true))
    c.conclude.result c.conclude.ensures).0

pub returns-in-None-clause-faulty : goal.returns-in-None-clause-faulty
returns-in-None-clause-faulty c =
    let i = c.loop-before.invariant in
    let s : IsNextOfScript c.args.script.now (requests_in i.0) (c.loop-before.before + 1) c.loop-before.progress
    c.judge_next.new.from (held c.judge_next.new.feed) c.judge_next.new.progress (Ok None) =
    subst (λ (o : Option Bool). IsNextOfScript c.args.script.now (requests_in i.0) (c.loop-before.before + 1)
    c.loop-before.progress c.judge_next.new.from (held c.judge_next.new.feed) c.judge_next.new.progress (Ok o))
    c.in-None.is (c.in_ok-judge_next.ensures (requests_in i.0) i.2.fed) in
    (dry c.args.book c.args.script.now c.args.replies.now c.loop-before.from (held c.loop-before.feed) i.0
    c.loop-before.progress c.loop-before.before
    i.2 i.1 c.judge_next.new.from (held c.judge_next.new.feed) c.judge_next.new.progress s.0 s.1
    (omega (arith, c.loop-before-test.true))
    c.conclude.result c.conclude.ensures).1

pub conclude-requires-then-is_last-clause-within : goal.conclude-requires-then-is_last-clause-within
conclude-requires-then-is_last-clause-within c =
    let i = c.loop-before.invariant in
    let s : IsNextOfScript c.args.script.now (requests_in i.0) (c.loop-before.before + 1) c.loop-before.progress
    c.judge_next.new.from (held c.judge_next.new.feed) c.judge_next.new.progress (Ok (Some c.in-Some.is_last)) =
    subst (λ (o : Option Bool). IsNextOfScript c.args.script.now (requests_in i.0) (c.loop-before.before + 1)
    c.loop-before.progress c.judge_next.new.from (held c.judge_next.new.feed) c.judge_next.new.progress (Ok o))
    c.in-Some.is (c.in_ok-judge_next.ensures (requests_in i.0) i.2.fed) in
    shorter-next c.args.book c.args.script.now c.args.replies.now c.loop-before.from (held c.loop-before.feed) i.0
    c.loop-before.progress c.loop-before.before
    i.2 i.1 c.judge_next.new.from (held c.judge_next.new.feed) s.0 s.1 c.loop-before-test.true c.judge_next.new.progress
    s.3

pub returns-then-is_last-clause-accepted : goal.returns-then-is_last-clause-accepted
returns-then-is_last-clause-accepted c =
    let i = c.loop-before.invariant in
    let s : IsNextOfScript c.args.script.now (requests_in i.0) (c.loop-before.before + 1) c.loop-before.progress
    c.judge_next.new.from (held c.judge_next.new.feed) c.judge_next.new.progress (Ok (Some c.in-Some.is_last)) =
    subst (λ (o : Option Bool). IsNextOfScript c.args.script.now (requests_in i.0) (c.loop-before.before + 1)
    c.loop-before.progress c.judge_next.new.from (held c.judge_next.new.feed) c.judge_next.new.progress (Ok o))
    c.in-Some.is (c.in_ok-judge_next.ensures (requests_in i.0) i.2.fed) in
    (ended c.args.book c.args.script.now c.args.replies.now c.loop-before.from (held c.loop-before.feed) i.0
    c.loop-before.progress c.loop-before.before
    i.2 i.1 c.judge_next.new.from (held c.judge_next.new.feed) s.0 s.1 c.loop-before-test.true c.judge_next.new.progress
    s.3 (sym s.2 ∙ c.if-is_last.true)
    c.conclude-then-is_last.result c.conclude-then-is_last.ensures).0

pub returns-then-is_last-clause-faulty : goal.returns-then-is_last-clause-faulty
returns-then-is_last-clause-faulty c =
    let i = c.loop-before.invariant in
    let s : IsNextOfScript c.args.script.now (requests_in i.0) (c.loop-before.before + 1) c.loop-before.progress
    c.judge_next.new.from (held c.judge_next.new.feed) c.judge_next.new.progress (Ok (Some c.in-Some.is_last)) =
    subst (λ (o : Option Bool). IsNextOfScript c.args.script.now (requests_in i.0) (c.loop-before.before + 1)
    c.loop-before.progress c.judge_next.new.from (held c.judge_next.new.feed) c.judge_next.new.progress (Ok o))
    c.in-Some.is (c.in_ok-judge_next.ensures (requests_in i.0) i.2.fed) in
    (ended c.args.book c.args.script.now c.args.replies.now c.loop-before.from (held c.loop-before.feed) i.0
    c.loop-before.progress c.loop-before.before
    i.2 i.1 c.judge_next.new.from (held c.judge_next.new.feed) s.0 s.1 c.loop-before-test.true c.judge_next.new.progress
    s.3 (sym s.2 ∙ c.if-is_last.true)
    c.conclude-then-is_last.result c.conclude-then-is_last.ensures).1

pub loop-before-preserved : goal.loop-before-preserved
loop-before-preserved c =
    let i = c.loop-before.invariant in
    let s : IsNextOfScript c.args.script.now (requests_in i.0) (c.loop-before.before + 1) c.loop-before.progress
    c.judge_next.new.from (held c.judge_next.new.feed) c.judge_next.new.progress (Ok (Some c.in-Some.is_last)) =
    subst (λ (o : Option Bool). IsNextOfScript c.args.script.now (requests_in i.0) (c.loop-before.before + 1)
    c.loop-before.progress c.judge_next.new.from (held c.judge_next.new.feed) c.judge_next.new.progress (Ok o))
    c.in-Some.is (c.in_ok-judge_next.ensures (requests_in i.0) i.2.fed) in (
      i.0 ++ record { request = s.0; reply = s.3.takes.reply } ∷ [],
      size-next c.args.book c.args.script.now c.args.replies.now c.loop-before.from (held c.loop-before.feed) i.0
          c.loop-before.progress c.loop-before.before
          i.2 i.1 c.judge_next.new.from (held c.judge_next.new.feed) s.0 s.1 c.loop-before-test.true
          c.judge_next.new.progress s.3,
      goes-further c.args.book c.args.script.now c.args.replies.now c.loop-before.from (held c.loop-before.feed) i.0
          c.loop-before.progress c.loop-before.before
          i.2 i.1 c.judge_next.new.from (held c.judge_next.new.feed) s.0 s.1 c.loop-before-test.true
          c.judge_next.new.progress s.3 (sym s.2 ∙ c.if-is_last.false),
    )

pub returns-clause-accepted : goal.returns-clause-accepted
returns-clause-accepted c =
    let i = c.loop-before.invariant in
    (full c.args.book c.args.script.now c.args.replies.now c.loop-before.from (held c.loop-before.feed) i.0
    c.loop-before.progress c.loop-before.before
    i.2 i.1 (omega (arith, c.loop-before-test.false, c.loop-before.auto.before-end)) c.conclude-2.result
    c.conclude-2.ensures).0

pub returns-clause-faulty : goal.returns-clause-faulty
returns-clause-faulty c =
    let i = c.loop-before.invariant in
    (full c.args.book c.args.script.now c.args.replies.now c.loop-before.from (held c.loop-before.feed) i.0
    c.loop-before.progress c.loop-before.before
    i.2 i.1 (omega (arith, c.loop-before-test.false, c.loop-before.auto.before-end)) c.conclude-2.result
    c.conclude-2.ensures).1
