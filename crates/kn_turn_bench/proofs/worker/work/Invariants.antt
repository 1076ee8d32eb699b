use Rattle.std.proofs.Common.{◌≡◌}
use Rattle.kn_registry.specs.Passes.{IsReady}
use Rattle.kn_turn_bench.proofs.worker.work.Given as goal

abbrev pub invariant-loop-k : goal.invariant-loop-k
invariant-loop-k g l = IsReady l.registry l.worker.pass × (l.worker.pass.number ≡ l.initial.worker.pass.number)
