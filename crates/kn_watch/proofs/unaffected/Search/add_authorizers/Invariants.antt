use Rattle.std.proofs.Common.{◌≡◌, ◌<◌, ℕ, Bool, true, List, Some, slice_get}
use Rattle.kn_system.specs.Equations.{row_at}
use Rattle.kn_watch.specs.Affected.{IsSubset, is_affected}
use Rattle.kn_watch.specs.Found.{AreFewFound, flags_of}
use Rattle.kn_watch.specs.Unaffected.{HasRows}
use Rattle.kn_watch.proofs.unaffected.Search.add_authorizers.Given as goal

abbrev pub invariant-loop-place : goal.invariant-loop-place
invariant-loop-place g l = record {
  found : AreFewFound l.system l.self.without l.self.most l.found;
  there : (i row : ℕ) → i < l.place → slice_get l.rows i ≡ Some row
      → is_affected (flags_of l.system l.found) (row_at l.system.rows row).authorizer ≡ true;
  within : (others : List Bool) → HasRows l.system l.rows others → IsSubset (flags_of l.system l.fn.found) others
      → IsSubset (flags_of l.system l.found) others;
}
