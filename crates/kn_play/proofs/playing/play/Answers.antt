use Rattle.std.proofs.Common.{◌≡◌, ◌+◌, [], ◌∷◌, ◌++◌, sym, subst, arith}
use Rattle.kn_wire.specs.Feeds.{held}
use Rattle.kn_play.specs.Playing.{IsPlayed, IsBeingPlayed, TakesOne}
use Rattle.kn_play.proofs.ScriptLoops.{has-room, is-dry, is-taken, finished-dry, finished-last, goes-further}
use Rattle.kn_play.proofs.ScriptLoops.{finished-most}
use Rattle.kn_play.proofs.playing.play.Goals as goal

-- src/playing.rt:44:15
pub play_next-requires-clause-room : goal.play_next-requires-clause-room
play_next-requires-clause-room c =
    has-room c.args.book.now c.args.script.now c.loop-before.from (held c.loop-before.feed) c.loop-before.invariant.0
    c.loop-before.sessions c.loop-before.last c.loop-before.before
    c.loop-before.invariant.1 (omega (arith, c.loop-before-test.true, c.requires))

-- src/playing.rt:45:21
pub returns-in-None : goal.returns-in-None
returns-in-None c =
    let i = c.loop-before.invariant in
    finished-dry c.args.book.now c.args.script.now c.loop-before.from (held c.loop-before.feed) i.0
    c.loop-before.sessions c.loop-before.last c.loop-before.before i.1
    c.play_next.new.from (held c.play_next.new.feed) c.play_next.new.sessions c.args.most
    (is-dry c.args.book.now c.args.script.now i.0 c.loop-before.sessions c.play_next.new.from
    (held c.play_next.new.feed) c.play_next.new.sessions c.in_ok-play_next.field-0
    (c.in_ok-play_next.ensures i.0 i.1.fed) c.in-None.is) (omega (arith, c.loop-before-test.true))

-- src/playing.rt:49:21
pub returns-then-step : goal.returns-then-step
returns-then-step c =
    let i = c.loop-before.invariant in
    let t : TakesOne c.args.book.now c.args.script.now i.0 c.loop-before.sessions c.play_next.new.from
    (held c.play_next.new.feed) c.play_next.new.sessions c.in-Some.step =
    is-taken c.args.book.now c.args.script.now i.0 c.loop-before.sessions c.play_next.new.from
    (held c.play_next.new.feed) c.play_next.new.sessions c.in_ok-play_next.field-0 c.in-Some.step
    (c.in_ok-play_next.ensures i.0 i.1.fed) c.in-Some.is in
    subst (λ found. IsPlayed c.args.book.now c.args.script.now c.args.most
    (record { sessions = c.play_next.new.sessions; last = found })) (sym c.later-last.ensures)
    (finished-last c.args.book.now c.args.script.now c.loop-before.from (held c.loop-before.feed) i.0
    c.loop-before.sessions c.loop-before.last c.loop-before.before i.1
    c.play_next.new.from (held c.play_next.new.feed) c.play_next.new.sessions c.in-Some.step t c.args.most
    c.if-step.true (omega (arith, c.loop-before-test.true)))

-- src/playing.rt:43:5
pub loop-before-preserved : goal.loop-before-preserved
loop-before-preserved c =
    let i = c.loop-before.invariant in
    let t : TakesOne c.args.book.now c.args.script.now i.0 c.loop-before.sessions c.play_next.new.from
    (held c.play_next.new.feed) c.play_next.new.sessions c.in-Some.step =
    is-taken c.args.book.now c.args.script.now i.0 c.loop-before.sessions c.play_next.new.from
    (held c.play_next.new.feed) c.play_next.new.sessions c.in_ok-play_next.field-0 c.in-Some.step
    (c.in_ok-play_next.ensures i.0 i.1.fed) c.in-Some.is in (
      i.0 ++ t.request ∷ [],
      subst (λ found. IsBeingPlayed c.args.book.now c.args.script.now c.play_next.new.from (held c.play_next.new.feed)
          (i.0 ++ t.request ∷ []) c.play_next.new.sessions found (c.loop-before.before + 1))
          (sym c.later-last.ensures)
          (goes-further c.args.book.now c.args.script.now c.loop-before.from (held c.loop-before.feed) i.0
          c.loop-before.sessions c.loop-before.last c.loop-before.before i.1
          c.play_next.new.from (held c.play_next.new.feed) c.play_next.new.sessions c.in-Some.step t c.if-step.false),
    )

-- src/playing.rt:30:1
pub returns : goal.returns
returns c =
    let i = c.loop-before.invariant in
    let all : c.loop-before.before ≡ c.args.most =
    omega (arith, c.loop-before-test.false, c.loop-before.auto.before-end) in
    subst (λ most. IsPlayed c.args.book.now c.args.script.now most
    (record { sessions = c.loop-before.sessions; last = c.loop-before.last })) all
    (finished-most c.args.book.now c.args.script.now c.loop-before.from (held c.loop-before.feed) i.0
    c.loop-before.sessions c.loop-before.last c.loop-before.before i.1)
