use Rattle.std.proofs.Common.{◌≡◌, map, take}
use Rattle.std.specs.List.{AllByRecursion}
use Rattle.kn_wire.specs.ItemsInCode as C
use Rattle.kn_reply.specs.Logs.{item_of}
use Rattle.kn_transcript.specs.Verdicts.{HasReading}
use Rattle.kn_transcript.proofs.items.read_items.Given as goal

-- the items so far are read
abbrev pub invariant-loop-item : goal.invariant-loop-item
invariant-loop-item l =
    (l.read ≡ map item_of (map C.item_of (take l.item-index l.items)))
    × AllByRecursion HasReading (map C.item_of (take l.item-index l.items))
