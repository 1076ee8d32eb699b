use Rattle.std.proofs.Common.{◌≡◌, false, map, take}
use Rattle.std.specs.List.{list_any}
use Rattle.kn_formula.specs.Trees.{itself, has_bad_threshold}
use Rattle.kn_formula.proofs.threshold.+has_bad_threshold.Given as goal

-- no part so far has a bad threshold
abbrev pub invariant-loop-part : goal.invariant-loop-part
invariant-loop-part l = list_any itself (map has_bad_threshold (take l.part-index l.part-items)) ≡ false
