use Rattle.std.proofs.Common.{◌≡◌, ℕ, suc, ◌+◌, List, [], ◌∷◌, ◌++◌, ap, sym, ◌∙◌, subst, arith}
use Rattle.std.specs.List.{AllByRecursion}
use Rattle.kn_turn.specs.Passes.{split_of, after_split}
use Rattle.kn_registry.specs.Passes.{PassSeen}
use Rattle.kn_workers.specs.Workers.{splits_from, after_joins}
use Rattle.kn_workers.specs.Posts.{IsSplit}
use Rattle.kn_workers.proofs.HiringLaws.{split_one_more, splits_ready, rejoined}
use Rattle.kn_workers.proofs.hiring.split_all.Goals as goal

pub join_all-requires-clause-split : goal.join_all-requires-clause-split
join_all-requires-clause-split c =
    subst (AllByRecursion (IsSplit c.args.reg.now)) (sym (c.finish.ensures ∙ c.splits.invariant.2))
    (splits_ready c.args.reg.now c.args.root.now c.splits.counter c.requires.ready)

pub returns-in-Err-clause-refused : goal.returns-in-Err-clause-refused
returns-in-Err-clause-refused c =
    let root = c.in-Err.ensures.refused ∙ c.splits.invariant.1 in
    let passes = c.finish.ensures ∙ c.splits.invariant.2 in
    rejoined _ _ c.splits.counter
    (c.join_all.ensures.joined
    ∙ ap (λ (x : PassSeen × List PassSeen). after_joins x.0 x.1) (λ i. (root i, passes i)))

pub splits-preserved : goal.splits-preserved
splits-preserved c =
    let i = c.splits.invariant in
    let root : PassSeen = c.args.root.now in
    let k : ℕ = c.splits.counter in
    let next : root.splits + k + 1 ≡ root.splits + (k + 1) = omega arith in
    let count : suc k ≡ k + 1 = omega arith in
    let pass = c.in-Ok.ensures.new ∙ ap split_of i.1 in (
      c.in-Ok.ensures.ready,
      c.in-Ok.ensures.root ∙ ap after_split i.1 ∙ ap (λ (n : ℕ). record root { splits = n }) next,
      c.put.ensures.items ∙ ap (λ (x : List PassSeen × PassSeen). x.0 ++ x.1 ∷ []) (λ j. (i.2 j, pass j))
          ∙ sym (split_one_more root k) ∙ ap (splits_from root) count,
      omega (arith, i.3, c.put.ensures.spare),
    )
