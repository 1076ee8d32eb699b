use Rattle.std.proofs.Common.{◌-◌, length, map}
use Rattle.kn_wire.specs.ItemsInCode.{item_of}
use Rattle.kn_wire.proofs.ItemSteps.{BeginsWith}
use Rattle.kn_wire.proofs.items.batch_items.Given as goal

abbrev pub invariant-loop-rest : goal.invariant-loop-rest
invariant-loop-rest l = BeginsWith l.block (map item_of l.items) l.rest

abbrev pub decreases-loop-rest : goal.decreases-loop-rest
decreases-loop-rest l = 256 - length l.items
