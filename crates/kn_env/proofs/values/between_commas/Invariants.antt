use Rattle.std.proofs.Common.{◌≡◌, map}
use Rattle.kn_env.proofs.values.between_commas.Given as goal

abbrev pub invariant-loop-name : goal.invariant-loop-name
invariant-loop-name l = l.names ≡ map (λ x. x.now) l.yielded
