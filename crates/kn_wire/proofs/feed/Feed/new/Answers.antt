use Rattle.std.proofs.Common.{[], ap, arith}
use Rattle.kn_wire.proofs.Feeds.{fresh_sound}
use Rattle.kn_wire.proofs.feed.Feed.new.Goals as goal

pub invariant_of-result-clause-sound : goal.invariant_of-result-clause-sound
invariant_of-result-clause-sound c =
    let from = ap (λ k. k.from) c.start.ensures in
    fresh_sound c.start.result [] (omega arith) (ap (λ k. k.searched) c.start.ensures)
    (ap (λ k. k.needed) c.start.ensures)
