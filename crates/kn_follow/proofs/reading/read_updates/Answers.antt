use Rattle.std.proofs.Common.{◌≡◌, ◌++◌, ◌∷◌, []}
use Rattle.std.proofs.lemmas.Result.{err_from_is_err_and}
use Rattle.std.proofs.lemmas.List.{map_push}
use Rattle.kn_follow.specs.InCode.{update_of, updates_of}
use Rattle.kn_follow.specs.Reading.{update_at, times}
use Rattle.kn_follow.proofs.Loops.{goes_on, ends, is_done}
use Rattle.kn_follow.proofs.reading.read_updates.Goals as goal

pub returns-in_err-update : goal.returns-in_err-update
returns-in_err-update c =
    let p = err_from_is_err_and c.from_residual.result c.from_residual.ensures.1 in
    rw (p.1, p.2) (ends update_at c.in_err-update.field-0.0 (updates_of c.loop.updates) c.args.count c.loop.counter
    c.loop.rest.now (times update_at c.args.count c.args.text.now) c.loop-test.true c.in_err-update.ensures
    c.loop.invariant)

pub loop-preserved : goal.loop-preserved
loop-preserved c =
    let e : updates_of c.add.new.self ≡ updates_of c.loop.updates ++ update_of c.in_ok-update.update ∷ [] =
    rw c.in_ok-add.ensures.ok (map_push update_of c.loop.updates c.in_ok-update.update) in
    rw e (goes_on update_at (updates_of c.loop.updates) c.args.count c.loop.counter c.loop.rest.now
    (update_of c.in_ok-update.update) c.in_ok-update.behind.now (times update_at c.args.count c.args.text.now)
    c.loop-test.true c.in_ok-update.ensures c.loop.invariant)

pub returns : goal.returns
returns c = is_done update_at (updates_of c.loop.updates) c.args.count c.loop.counter c.loop.rest.now
    (times update_at c.args.count c.args.text.now) c.loop-test.false c.loop.invariant
