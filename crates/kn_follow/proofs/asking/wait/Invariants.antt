use Rattle.std.proofs.Common.{◌-◌, length}
use Rattle.kn_follow.proofs.PullSteps.{IsHeld}
use Rattle.kn_follow.proofs.asking.wait.Given as goal

abbrev pub invariant-pieces : goal.invariant-pieces
invariant-pieces g l = IsHeld l.fn.held l.held (g.L.Sink.seen l.fn.link) (g.L.Sink.seen l.link)

abbrev pub decreases-pieces : goal.decreases-pieces
decreases-pieces g l = 300001 - length l.held
