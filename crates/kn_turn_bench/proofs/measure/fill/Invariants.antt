use Rattle.kn_registry.specs.Passes.{IsReady}
use Rattle.kn_turn_bench.proofs.measure.fill.Given as goal

abbrev pub invariant-loop-k : goal.invariant-loop-k
invariant-loop-k g l = IsReady l.registry l.root
