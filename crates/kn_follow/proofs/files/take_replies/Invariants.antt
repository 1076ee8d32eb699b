use Rattle.std.proofs.Common.{ℕ, List, length}
use Rattle.kn_follow.specs.Files.{AppliesFirst}
use Rattle.kn_follow.proofs.files.take_replies.Given as goal

abbrev pub invariant-replies : goal.invariant-replies
invariant-replies l = (text : List ℕ) → AppliesFirst text l.bytes l.fn.replica → AppliesFirst text l.rest l.replica

abbrev pub decreases-replies : goal.decreases-replies
decreases-replies l = length l.rest
