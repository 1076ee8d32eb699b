use Rattle.std.proofs.Common.{◌≡◌, ◌<◌, Bool, true, false, List, length, ◌∙◌, subst, rules}
use Rattle.kn_system.specs.Equations.{SystemEquations}
use Rattle.kn_watch.specs.Raising.{HasRisen, room}
use Rattle.kn_watch.proofs.RaisedLevels.{raised-least, raising-ends, raising-next, raising-starts}
use Rattle.kn_watch.proofs.raising.raise_all.Goals as goal

pub loop-init : goal.loop-init
loop-init g c = raising-starts c.args.system.now c.args.affected.now c.args.levels.now c.args.steps.now c.requires.start

pub raise_each-requires-clause-fit : goal.raise_each-requires-clause-fit
raise_each-requires-clause-fit g c = c.loop.invariant.raised.fit

pub loop-preserved : goal.loop-preserved
loop-preserved g c =
    let s : SystemEquations = c.args.system.now in
    let affected : List Bool = c.args.affected.now in
    let risen : c.raise_each.result ≡ true = search rules in
    let less : room s affected c.raise_each.new.levels < room s affected c.loop.levels =
    subst (HasRisen s affected (length s.rows) c.loop.levels c.raise_each.new.levels) risen
    c.raise_each.ensures.risen in
    raising-next s affected c.args.levels.now c.loop.levels c.raise_each.new.levels c.args.steps.now c.loop.steps
    c.raise_each.new.steps c.loop.invariant less
    (c.raise_each.ensures.raised c.args.levels.now c.loop.invariant.raised) c.raise_each.ensures.ticks

pub loop-smaller : goal.loop-smaller
loop-smaller g c =
    let s : SystemEquations = c.args.system.now in
    let affected : List Bool = c.args.affected.now in
    let risen : c.raise_each.result ≡ true = search rules in
    subst (HasRisen s affected (length s.rows) c.loop.levels c.raise_each.new.levels) risen c.raise_each.ensures.risen

pub returns-clause-least : goal.returns-clause-least
returns-clause-least g c =
    let s : SystemEquations = c.args.system.now in
    let affected : List Bool = c.args.affected.now in
    let still : c.raise_each.result ≡ false = search rules in
    let (same, closed) : HasRisen s affected (length s.rows) c.loop.levels c.raise_each.new.levels false =
    subst (HasRisen s affected (length s.rows) c.loop.levels c.raise_each.new.levels) still
    c.raise_each.ensures.risen in
    same ∙ raised-least s affected c.args.levels.now c.loop.levels c.requires.start c.loop.invariant.raised closed

pub returns-clause-ticks : goal.returns-clause-ticks
returns-clause-ticks g c =
    raising-ends c.args.system.now c.args.affected.now c.args.levels.now c.loop.levels c.args.steps.now c.loop.steps
    c.raise_each.new.steps c.loop.invariant c.raise_each.ensures.ticks
