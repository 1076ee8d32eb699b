use Rattle.std.proofs.Common.{List}
use Rattle.kn_wire.specs.Requests.{Request}
use Rattle.kn_wire.specs.Feeds.{held}
use Rattle.kn_play.specs.Playing.{IsBeingPlayed}
use Rattle.kn_play.proofs.playing.play.Given as goal

abbrev pub invariant-loop-before : goal.invariant-loop-before
invariant-loop-before l = (requests : List Request)
    × IsBeingPlayed l.book l.script l.from (held l.feed) requests l.sessions l.last l.before
