use Rattle.std.proofs.Common.{◌≡◌, ◌≤◌, ◌+◌, ◌++◌, take}
use Rattle.std.specs.Prelude.{map}
use Rattle.std.specs.Arc.{arc_value}
use Rattle.kn_pages.proofs.sharing.share_into.Given as goal

abbrev pub invariant-loop-item : goal.invariant-loop-item
invariant-loop-item g l = record {
  items : map arc_value l.room.items ≡ map arc_value l.initial.room.items ++ map arc_value (take l.item-index l.items);
  spare : l.initial.room.spare ≤ l.room.spare + l.item-index;
}
