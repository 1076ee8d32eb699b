use Rattle.std.proofs.Common.{◌≤◌, ◌+◌, length}
use Rattle.kn_auth.proofs.KeyFiles.{IsReadTo}
use Rattle.kn_auth.proofs.key_file.read.Given as goal

-- what the lines so far say, and as many lines are left as there are bytes at most
abbrev pub invariant-lines : goal.invariant-lines
invariant-lines l =
    (goal.iterator-lines).can_next l.lines × (goal.iterator-lines).is_finite l.lines
    × IsReadTo l.fn.bytes l.number l.file l.lines × (l.number + length l.lines ≤ length l.fn.bytes)
