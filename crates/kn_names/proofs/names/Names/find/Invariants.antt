use Rattle.std.proofs.Common.{length}
use Rattle.kn_names.specs.Chains.{IsSought}
use Rattle.kn_names.proofs.names.Names.find.Given as goal

abbrev pub invariant-loop-at : goal.invariant-loop-at
invariant-loop-at l = IsSought l.self-inside.arena (length l.self-inside.heads.items) l.name l.at

abbrev pub decreases-loop-at : goal.decreases-loop-at
decreases-loop-at l = l.at
