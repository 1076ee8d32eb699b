use Rattle.std.proofs.Common.{◌≡◌}
use Rattle.kn_base.specs.Threshold.{threshold, greatest, is_reached}
use Rattle.kn_meaning.proofs.plain.gate_level.Given as goal

abbrev pub invariant-loop-level : goal.invariant-loop-level
invariant-loop-level l = greatest l.level (is_reached l.need l.levels) ≡ threshold l.top l.need l.levels

abbrev pub decreases-loop-level : goal.decreases-loop-level
decreases-loop-level l = l.level
