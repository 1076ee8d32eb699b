use Rattle.std.proofs.Common.{◌≡◌, ◌+◌, ◌≤◌, drop}
use Rattle.kn_base.specs.Threshold.{reaching}
use Rattle.kn_meaning.proofs.plain.reaching.Given as goal

abbrev pub invariant-loop-other : goal.invariant-loop-other
invariant-loop-other l = (l.count + reaching l.level (drop l.other-index l.levels) ≡ reaching l.level l.levels)
    × (l.count ≤ l.other-index)
