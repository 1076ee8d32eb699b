use Rattle.std.proofs.Common.{◌≡◌}
use Rattle.kn_registry.specs.Passes.{IsReady}
use Rattle.kn_turn_bench.proofs.measure.pin_until.Given as goal

abbrev pub invariant-loop : goal.invariant-loop
invariant-loop g l = IsReady l.registry l.worker.pass × (l.worker.pass.number ≡ l.initial.worker.pass.number)
