use Rattle.std.proofs.Common.{◌≡◌, ◌≤◌}
use Rattle.kn_registry.specs.Passes.{IsReady}
use Rattle.kn_turn_bench.proofs.history.play_rounds.Given as goal

abbrev pub invariant-loop : goal.invariant-loop
invariant-loop g l = IsReady l.registry l.root × (l.root.number ≡ 0) × (l.root.splits ≡ l.split) × (l.split ≤ 63)
