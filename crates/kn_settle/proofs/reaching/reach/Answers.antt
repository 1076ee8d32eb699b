use Rattle.std.proofs.Common.{◌≡◌, ◌<◌, ℕ, List, length, slice_set, slice_index, sym, subst, arith}
use Rattle.kn_system.specs.Equations.{SystemEquations}
use Rattle.kn_system.specs.Nodes.{pieces_of, uses_of}
use Rattle.kn_settle.specs.Counters.{AreVisited, AreWaiting, IsUsed}
use Rattle.kn_settle.proofs.PrincipalLevels.{visit-begins, waits-level, visit-used, level-now}
use Rattle.kn_settle.proofs.reaching.reach.Goals as goal

pub returns-in-Ok-visit-clause-reaches : goal.returns-in-Ok-visit-clause-reaches
returns-in-Ok-visit-clause-reaches g c = λ start marks counting used.
    let s : SystemEquations = c.args.system.now in
    let levels : List ℕ = c.args.levels.now.values.items in
    let p : ℕ = c.args.principal in
    let v : ℕ = c.args.value in
    let set : c.set.new.self.values.items ≡ slice_set levels p v = c.in-Ok.ensures.ok in
    let within : p < length levels = omega (arith, c.requires.in_range, c.requires.one_each) in
    let (after, visit, counted) =
    c.in-Ok-visit.ensures.visits marks
    (subst (λ (ls : List ℕ). 0 < slice_index ls p) (sym set) (level-now levels p v within c.requires.above_lowest))
    counting.counted
    (subst (λ (ls : List ℕ). AreVisited s p (length (uses_of p (pieces_of s.rows))) ls marks) (sym set)
    (visit-begins s p v levels marks c.requires.fresh counting.whole))
    (subst (λ (ls : List ℕ). AreWaiting s v ls marks c.args.counters.now.buckets.items) (sym set)
    (waits-level s p v v levels marks c.args.counters.now.buckets.items c.requires.fresh counting.waits)) in (
      after,
      subst (λ (ls : List ℕ). IsUsed s after ls start c.visit.new.steps) (sym set)
          (visit-used s p v levels marks after start c.args.steps.now c.visit.new.steps within c.requires.fresh
          c.requires.above_lowest used visit),
      counted,
    )

pub returns-in-Err-visit-clause-reaches : goal.returns-in-Err-visit-clause-reaches
returns-in-Err-visit-clause-reaches g c = λ start marks counting used.
    let s : SystemEquations = c.args.system.now in
    let levels : List ℕ = c.args.levels.now.values.items in
    let p : ℕ = c.args.principal in
    let v : ℕ = c.args.value in
    let set : c.set.new.self.values.items ≡ slice_set levels p v = c.in-Ok.ensures.ok in
    let within : p < length levels = omega (arith, c.requires.in_range, c.requires.one_each) in
    let (after, visit, none) =
    c.in-Err-visit.ensures.visits marks
    (subst (λ (ls : List ℕ). 0 < slice_index ls p) (sym set) (level-now levels p v within c.requires.above_lowest))
    counting.counted
    (subst (λ (ls : List ℕ). AreVisited s p (length (uses_of p (pieces_of s.rows))) ls marks) (sym set)
    (visit-begins s p v levels marks c.requires.fresh counting.whole))
    (subst (λ (ls : List ℕ). AreWaiting s v ls marks c.args.counters.now.buckets.items) (sym set)
    (waits-level s p v v levels marks c.args.counters.now.buckets.items c.requires.fresh counting.waits)) in (
      after,
      subst (λ (ls : List ℕ). IsUsed s after ls start c.visit.new.steps) (sym set)
          (visit-used s p v levels marks after start c.args.steps.now c.visit.new.steps within c.requires.fresh
          c.requires.above_lowest used visit),
      tt,
    )

pub returns-in-Err-clause-reaches : goal.returns-in-Err-clause-reaches
returns-in-Err-clause-reaches g c = λ start marks counting used.
    let s : SystemEquations = c.args.system.now in
    (marks, subst (λ (ls : List ℕ). IsUsed s marks ls start c.args.steps.now) (sym c.in-Err.ensures.err) used, tt)
