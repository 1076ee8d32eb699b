use Rattle.std.proofs.Common.{◌≡◌, ◌-◌, map}
use Rattle.kn_wire.specs.ItemsInCode.{item_of}
use Rattle.kn_follow.specs.Reading.{item_at, times}
use Rattle.kn_follow.proofs.Loops.{with_front}
use Rattle.kn_follow.proofs.reading.read_items.Given as goal

abbrev pub invariant-loop : goal.invariant-loop
invariant-loop l = with_front (map item_of l.items) (times item_at (l.count - l.counter) l.rest)
    ≡ times item_at l.count l.text
