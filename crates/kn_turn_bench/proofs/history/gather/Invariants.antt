use Rattle.std.proofs.Common.{◌≡◌, ◌≢◌, All, vec_len}
use Rattle.kn_registry.specs.Passes.{IsReady}
use Rattle.kn_turn_bench.proofs.history.gather.Given as goal

abbrev pub invariant-loop-worker : goal.invariant-loop-worker
invariant-loop-worker l = IsReady l.registry l.root × (l.root.number ≡ l.initial.root.number)
    × (l.root.splits ≡ l.initial.root.splits)
    × All (λ w. IsReady l.registry w.pass × (w.pass.number ≢ 0)) l.workers.items

abbrev pub decreases-loop-worker : goal.decreases-loop-worker
decreases-loop-worker l = vec_len l.workers
