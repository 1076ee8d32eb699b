use Rattle.std.proofs.Common.{◌≡◌, length}
use Rattle.kn_settle.specs.Blank.{AreTrailed}
use Rattle.kn_settle.proofs.levels.Levels.clear.Given as goal

abbrev pub invariant-loop-principal : goal.invariant-loop-principal
invariant-loop-principal l = record {
  size : length l.self.values.items ≡ length l.fn.self.values.items;
  trailed : AreTrailed l.self.values.items l.self.trail;
}

abbrev pub decreases-loop-principal : goal.decreases-loop-principal
decreases-loop-principal l = length l.self.trail
