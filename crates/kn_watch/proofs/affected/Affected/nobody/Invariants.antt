use Rattle.std.proofs.Common.{◌≡◌, false, replicate}
use Rattle.kn_watch.proofs.affected.Affected.nobody.Given as goal

abbrev pub invariant-loop-principal : goal.invariant-loop-principal
invariant-loop-principal l = l.flags.items ≡ replicate l._principal false
