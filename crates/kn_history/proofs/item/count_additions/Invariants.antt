use Rattle.std.proofs.Common.{◌≡◌, ◌≤◌, take}
use Rattle.std.specs.Prelude.{sum_by}
use Rattle.kn_history.proofs.Batches.{added_by}
use Rattle.kn_history.proofs.item.count_additions.Given as goal

abbrev pub invariant-loop-i : goal.invariant-loop-i
invariant-loop-i l = record {
  count : l.count ≡ sum_by added_by (take l.i l.all);
  few : l.count ≤ l.i;
}
