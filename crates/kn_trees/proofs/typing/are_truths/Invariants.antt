use Rattle.std.proofs.Common.{◌≡◌, map, drop}
use Rattle.std.specs.List.{list_all}
use Rattle.kn_trees.specs.Kinds.{is_truth}
use Rattle.kn_trees.proofs.typing.are_truths.Given as goal

abbrev pub invariant-loop-root : goal.invariant-loop-root
invariant-loop-root l = list_all is_truth (map (λ root. root.kind) (drop l.root-index l.roots))
    ≡ list_all is_truth (map (λ root. root.kind) l.roots)
