use Rattle.std.proofs.Common.{take}
use Rattle.kn_follow.specs.Following.{Takes}
use Rattle.kn_follow.specs.InCode.{updates_of}
use Rattle.kn_follow.proofs.replica.Replica.take_updates.Given as goal

abbrev pub invariant-loop-update : goal.invariant-loop-update
invariant-loop-update l = Takes l.fn.self (updates_of (take l.update-index l.updates)) l.self
