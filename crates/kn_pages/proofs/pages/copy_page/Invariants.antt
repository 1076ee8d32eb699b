use Rattle.std.proofs.Common.{◌≡◌, ◌≤◌, ◌+◌, take, length}
use Rattle.kn_pages.proofs.pages.copy_page.Given as goal

abbrev pub invariant-loop-item : goal.invariant-loop-item
invariant-loop-item g l = record {
  items : l.room.items ≡ take l.item-index l.page;
  spare : length l.page ≤ l.room.spare + l.item-index;
}
