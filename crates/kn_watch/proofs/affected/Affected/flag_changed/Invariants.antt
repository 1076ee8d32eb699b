use Rattle.std.proofs.Common.{◌≡◌, ◌<◌, ℕ, Bool, true, List, Some, length, slice_get}
use Rattle.kn_system.specs.Equations.{row_at}
use Rattle.kn_watch.specs.declared.changed.Changed.{Changed}
use Rattle.kn_watch.specs.Affected.{IsSubset, HasChanged, is_affected}
use Rattle.kn_watch.specs.Found.{AreFound}
use Rattle.kn_watch.proofs.affected.Affected.flag_changed.Given as goal

abbrev pub invariant-loop-place : goal.invariant-loop-place
invariant-loop-place g l = record {
  size : length l.self.flags.items ≡ length l.system.requesters;
  found : AreFound l.self.flags.items l.self.found;
  rows : (i : ℕ) (change : Changed) → i < l.place → slice_get l.changed i ≡ Some change
      → is_affected l.self.flags.items (row_at l.system.rows change.row).authorizer ≡ true;
  within : (others : List Bool) → HasChanged l.system l.changed others → IsSubset l.fn.self.flags.items others
      → IsSubset l.self.flags.items others;
}
