use Rattle.std.proofs.Common.{◌≡◌, length}
use Rattle.std.specs.List.{AllByRecursion}
use Rattle.kn_registry.specs.Passes.{IsReady}
use Rattle.kn_workers.specs.Workers.{after_joins}
use Rattle.kn_workers.specs.Posts.{IsSplit}
use Rattle.kn_workers.proofs.hiring.join_all.Given as goal

abbrev pub invariant-joins : goal.invariant-joins
invariant-joins l =
    IsReady l.reg l.root
    × (after_joins l.root l.passes ≡ after_joins l.initial.root l.initial.passes)
    × AllByRecursion (IsSplit l.reg) l.passes

abbrev pub decreases-joins : goal.decreases-joins
decreases-joins l = length l.passes
