use Rattle.std.proofs.Common.{length}
use Rattle.kn_follow.specs.Files.{AppliesFirst}
use Rattle.kn_follow.proofs.files.follow.Given as goal

abbrev pub invariant-parts : goal.invariant-parts
invariant-parts l = AppliesFirst l.fn.log l.left l.replica

abbrev pub decreases-parts : goal.decreases-parts
decreases-parts l = length l.left
