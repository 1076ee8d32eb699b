use Rattle.std.proofs.Common.{◌≡◌, ◌+◌, ◌≤◌}
use Rattle.kn_registry.specs.Passes.{IsReady}
use Rattle.kn_workers.specs.Workers.{splits_from}
use Rattle.kn_workers.proofs.hiring.split_all.Given as goal

abbrev pub invariant-splits : goal.invariant-splits
invariant-splits l =
    IsReady l.reg l.root
    × (l.root ≡ record l.initial.root { splits = l.initial.root.splits + l.counter })
    × (l.passes.items ≡ splits_from l.initial.root l.counter)
    × (l.count ≤ l.passes.spare + l.counter)
