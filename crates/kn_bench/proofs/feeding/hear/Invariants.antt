use Rattle.std.proofs.Common.{◌≡◌, None, length}
use Rattle.kn_wire.specs.Feeding.{next_of}
use Rattle.kn_wire.specs.Feeds.{held}
use Rattle.kn_bench.proofs.feeding.hear.Given as goal

abbrev pub invariant-pieces : goal.invariant-pieces
invariant-pieces l = next_of (held l.feed) ≡ None

abbrev pub decreases-pieces : goal.decreases-pieces
decreases-pieces l = length l.rest
