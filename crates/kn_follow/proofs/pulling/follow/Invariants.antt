use Rattle.std.proofs.Common.{◌≡◌, ◌-◌, ◌^◌, length}
use Rattle.kn_follow.proofs.PullRounds.{IsFollowing}
use Rattle.kn_follow.proofs.pulling.follow.Given as goal

abbrev pub invariant-rounds : goal.invariant-rounds
invariant-rounds g l =
    record {
      here : l.number ≡ length l.replica;
      rounds : IsFollowing l.fn.replica l.replica l.fn.held l.held (g.L.Sink.seen l.fn.link) (g.L.Sink.seen l.link);
    }

abbrev pub decreases-rounds : goal.decreases-rounds
decreases-rounds g l = 2 ^ 32 - l.number
