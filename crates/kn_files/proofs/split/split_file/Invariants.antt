use Rattle.std.proofs.Common.{length, ◌-◌}
use Rattle.kn_files.proofs.Splitting.{IsSplit}
use Rattle.kn_files.proofs.split.split_file.Given as goal

abbrev pub invariant-loop-at : goal.invariant-loop-at
invariant-loop-at l = IsSplit l.file l.start l.at l.within l.spans

abbrev pub decreases-loop-at : goal.decreases-loop-at
decreases-loop-at l = length l.file - l.at
