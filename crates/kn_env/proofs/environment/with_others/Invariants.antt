use Rattle.std.proofs.Common.{◌≡◌, ◌++◌, ◌∷◌, drop}
use Rattle.std.specs.List.{join_with_byte}
use Rattle.kn_env.proofs.Places.{each_behind}
use Rattle.kn_env.proofs.environment.with_others.Given as goal

abbrev pub invariant-loop-name : goal.invariant-loop-name
invariant-loop-name l = l.text ++ each_behind 44 (drop l.name-index l.others) ≡ join_with_byte 44 (l.first ∷ l.others)
