use Rattle.std.specs.Io.KnownBytes.{Keeps}
use Rattle.kn_real.proofs.retry.write_some.Given as goal

-- a write that was interrupted has written nothing
abbrev pub invariant-loop : goal.invariant-loop
invariant-loop g l = Keeps (g.W.Write.contents l.fn.writer) (g.W.Write.contents l.writer)
