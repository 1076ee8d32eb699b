use Rattle.std.proofs.Common.{◌≡◌, ◌≢◌, ◌+◌, All}
use Rattle.kn_registry.specs.Passes.{IsReady}
use Rattle.kn_turn_bench.proofs.history.hire.Given as goal

abbrev pub invariant-loop : goal.invariant-loop
invariant-loop l = IsReady l.registry l.root × (l.root.number ≡ l.initial.root.number)
    × (l.root.splits ≡ l.initial.root.splits + l.counter)
    × All (λ w. IsReady l.registry w.pass × (w.pass.number ≢ 0)) l.workers.items
