use Rattle.std.proofs.Common.{length}
use Rattle.kn_reply_reader.proofs.EndingLaws.{IsBehindOthers}
use Rattle.kn_reply_reader.proofs.ending.cut_behind_end.Given as goal

abbrev pub invariant-lines : goal.invariant-lines
invariant-lines l = IsBehindOthers l.text l.lines

abbrev pub decreases-lines : goal.decreases-lines
decreases-lines l = length l.lines
