use Rattle.std.proofs.Common.{◌≡◌, map, drop, length, zip}
use Rattle.kn_trees.specs.Kinds.{chain_kind}
use Rattle.kn_trees.proofs.typing.chain_kind.Given as goal

-- what is left decides
abbrev pub invariant-loop-sign : goal.invariant-loop-sign
invariant-loop-sign l =
    chain_kind l.left
    (zip (drop (length l.yielded) l.signs) (map (λ root. root.kind) (drop (length l.yielded) l.rights)))
    ≡ chain_kind l.fn.first (zip l.signs (map (λ root. root.kind) l.rights))
