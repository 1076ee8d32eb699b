use Rattle.std.proofs.Common.{◌≡◌, take}
use Rattle.kn_follow.specs.InCode.{asked_items}
use Rattle.kn_follow.proofs.items.make_items.Given as goal

abbrev pub invariant-loop-item : goal.invariant-loop-item
invariant-loop-item l = l.made ≡ asked_items (take l.item-index l.items)
