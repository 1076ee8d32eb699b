use Rattle.std.proofs.Common.{◌≡◌, ◌-◌, Bool, List, length}
use Rattle.kn_watch.specs.Affected.{IsSubset, HasUsers}
use Rattle.kn_watch.specs.Found.{AreFound}
use Rattle.kn_watch.proofs.AffectedSpread.{AreFindTicks, AreSpread}
use Rattle.kn_watch.proofs.affected.Affected.spread_all.Given as goal

abbrev pub invariant-loop-at : goal.invariant-loop-at
invariant-loop-at g l = record {
  size : length l.self.flags.items ≡ length l.system.requesters;
  found : AreFound l.self.flags.items l.self.found;
  kept : IsSubset l.fn.self.flags.items l.self.flags.items;
  spread : AreSpread l.system l.self.found l.at l.self.flags.items;
  within : (others : List Bool) → HasUsers l.system others → IsSubset l.fn.self.flags.items others
      → IsSubset l.self.flags.items others;
  ticks : (others : List Bool) → HasUsers l.system others → IsSubset l.fn.self.flags.items others
      → AreFindTicks l.system others l.self.found l.at l.fn.steps l.steps;
}

abbrev pub decreases-loop-at : goal.decreases-loop-at
decreases-loop-at g l = length l.system.requesters - l.at
