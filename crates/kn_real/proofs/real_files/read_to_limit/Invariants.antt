use Rattle.std.proofs.Common.{◌-◌, length}
use Rattle.std.specs.Io.KnownBytes.{Consumes}
use Rattle.kn_real.proofs.real_files.read_to_limit.Given as goal

-- the bytes that may still be read, the one too many among them
abbrev pub decreases-loop-buf : goal.decreases-loop-buf
decreases-loop-buf g l = 16777217 - length l.content

abbrev pub invariant-loop-buf : goal.invariant-loop-buf
invariant-loop-buf g l = Consumes (g.R.Read.remaining l.fn.reader) (g.R.Read.remaining l.reader) l.content
