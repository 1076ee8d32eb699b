use Rattle.std.proofs.Common.{◌≡◌, length}
use Rattle.std.specs.Io.KnownBytes.{Keeps}
use Rattle.kn_real.proofs.retry.read_some.Given as goal

-- a read that was interrupted has read nothing
abbrev pub invariant-loop : goal.invariant-loop
invariant-loop g l = (length l.buf ≡ length l.fn.buf)
    × Keeps (g.R.Read.remaining l.fn.reader) (g.R.Read.remaining l.reader)
