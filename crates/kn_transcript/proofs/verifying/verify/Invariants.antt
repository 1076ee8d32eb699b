use Rattle.std.proofs.Common.{◌≡◌, List, length}
use Rattle.kn_wire.specs.Feeds.{held}
use Rattle.kn_transcript.specs.Followed.{Answered}
use Rattle.kn_transcript.specs.Progress.{IsBeingVerified}
use Rattle.kn_transcript.proofs.verifying.verify.Given as goal

-- so many requests were answered
abbrev pub invariant-loop-before : goal.invariant-loop-before
invariant-loop-before l =
    (answered : List Answered) × (length answered ≡ l.before)
    × IsBeingVerified l.fn.book l.script l.replies l.from (held l.feed) answered l.progress
