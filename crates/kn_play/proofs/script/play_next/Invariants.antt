use Rattle.std.proofs.Common.{◌≡◌, ◌≤◌, ◌-◌, List, length}
use Rattle.kn_wire.specs.Requests.{Request}
use Rattle.kn_wire.specs.Feeds.{held}
use Rattle.kn_play.specs.Playing.{IsFed}
use Rattle.kn_play.proofs.script.play_next.Given as goal

-- the sessions are as they were, and what was taken before the bytes that were fed meanwhile is still taken
abbrev pub invariant-pieces : goal.invariant-pieces
invariant-pieces l = record {
  same : l.sessions ≡ l.fn.sessions;
  within : l.from ≤ length l.script;
  fed : (requests : List Request) → IsFed l.script l.fn.from (held l.fn.feed) requests
      → IsFed l.script l.from (held l.feed) requests;
}

abbrev pub decreases-pieces : goal.decreases-pieces
decreases-pieces l = length l.script - l.from
