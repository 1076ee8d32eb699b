use mathlib.Core.List.{IsPrefix}
use Rattle.std.proofs.Common.{◌-◌, Bool, List}
use Rattle.kn_watch.specs.Affected.{IsSubset, HasUsers}
use Rattle.kn_watch.specs.Found.{AreFewFound, flags_of}
use Rattle.kn_watch.proofs.AffectedSpread.{AreFindTicks, AreSpread}
use Rattle.kn_watch.proofs.unaffected.Search.add_all_users.Given as goal

abbrev pub invariant-loop-at : goal.invariant-loop-at
invariant-loop-at g l = record {
  found : AreFewFound l.system l.self.without l.self.most l.found;
  front : IsPrefix l.fn.found l.found;
  spread : AreSpread l.system l.found l.at (flags_of l.system l.found);
  within : (others : List Bool) → HasUsers l.system others → IsSubset (flags_of l.system l.fn.found) others
      → IsSubset (flags_of l.system l.found) others;
  ticks : (others : List Bool) → HasUsers l.system others → IsSubset (flags_of l.system l.fn.found) others
      → AreFindTicks l.system others l.found l.at l.fn.steps l.steps;
}

abbrev pub decreases-loop-at : goal.decreases-loop-at
decreases-loop-at g l = l.self.most - l.at
