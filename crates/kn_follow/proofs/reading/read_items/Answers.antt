use Rattle.std.proofs.Common.{◌≡◌, ◌++◌, ◌∷◌, [], map}
use Rattle.std.proofs.lemmas.Result.{err_from_is_err_and}
use Rattle.std.proofs.lemmas.List.{map_push}
use Rattle.kn_wire.specs.ItemsInCode.{item_of}
use Rattle.kn_follow.specs.Reading.{item_at, times}
use Rattle.kn_follow.proofs.Loops.{goes_on, ends, is_done}
use Rattle.kn_follow.proofs.reading.read_items.Goals as goal

pub returns-in_err-item : goal.returns-in_err-item
returns-in_err-item c =
    let p = err_from_is_err_and c.from_residual.result c.from_residual.ensures.1 in
    rw (p.1, p.2) (ends item_at c.in_err-item.field-0.0 (map item_of c.loop.items) c.args.count c.loop.counter
    c.loop.rest.now (times item_at c.args.count c.args.text.now) c.loop-test.true c.in_err-item.ensures
    c.loop.invariant)

pub loop-preserved : goal.loop-preserved
loop-preserved c =
    let e : map item_of c.add.new.self ≡ map item_of c.loop.items ++ item_of c.in_ok-item.item ∷ [] =
    rw c.in_ok-add.ensures.ok (map_push item_of c.loop.items c.in_ok-item.item) in
    rw e (goes_on item_at (map item_of c.loop.items) c.args.count c.loop.counter c.loop.rest.now
    (item_of c.in_ok-item.item) c.in_ok-item.behind.now (times item_at c.args.count c.args.text.now)
    c.loop-test.true c.in_ok-item.ensures c.loop.invariant)

pub returns : goal.returns
returns c = is_done item_at (map item_of c.loop.items) c.args.count c.loop.counter c.loop.rest.now
    (times item_at c.args.count c.args.text.now) c.loop-test.false c.loop.invariant
