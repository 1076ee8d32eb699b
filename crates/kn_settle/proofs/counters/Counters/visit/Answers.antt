use Rattle.std.proofs.Common.{◌≡◌, ◌<◌, ◌≤◌, ℕ, suc, Some, length, slice_get, refl, sym, ap, ◌∙◌, subst, arith}
use Rattle.kn_system.specs.Equations.{SystemEquations}
use Rattle.kn_system.specs.Nodes.{pieces_of, use_before_at, uses_of}
use Rattle.kn_settle.specs.Counters.{rank}
use Rattle.kn_settle.proofs.OneMoreNode.{longer-trans}
use Rattle.kn_settle.proofs.UsesAtLevels.{VisitsAt, goes_on_at, breaks_at, ends_at, starts_at}
use Rattle.kn_settle.proofs.VisitedUses.{next-is, next-left, next_read, none_of, use_read, uses_left}
use Rattle.kn_settle.proofs.counters.Counters.visit.Goals as goal

pub loop-next-init : goal.loop-next-init
loop-next-init g c =
    let s : SystemEquations = c.args.system.now in
    let p : ℕ = c.args.principal in
    let uses : ℕ = length (uses_of p (pieces_of s.rows)) in
    record {
      counts = refl;
      buckets = refl;
      longer = λ w i r e. e;
      trailed = λ h. h;
      next = next-is s p uses c.last_use-next.result (omega arith) c.last_use-next.ensures.exact;
      visiting = subst (λ k. VisitsAt s c.args.value p k c.args.levels.now.values.items c.args.self.now.counts.items
          c.args.self.now.buckets.items c.args.self.now.counts.items c.args.self.now.buckets.items c.args.steps.now
          c.last_use-next.new.steps)
          (sym (next-left s p uses c.last_use-next.result (omega arith) c.last_use-next.ensures.exact))
          (starts_at s c.args.value p c.args.levels.now.values.items c.args.self.now.counts.items
          c.args.self.now.buckets.items c.args.steps.now c.last_use-next.new.steps c.last_use-next.ensures.ticks);
    }

pub climb-requires-clause-in_range : goal.climb-requires-clause-in_range
climb-requires-clause-in_range g c =
    let s : SystemEquations = c.args.system.now in
    let p : ℕ = c.args.principal in
    let node : ℕ = c.in-Some.node in
    (use_read s p (rank s p node) node (next_read s p node c.loop-next.next c.loop-next.invariant.next
    c.in-Some.is)).inside

pub use_before-next-requires : goal.use_before-next-requires
use_before-next-requires g c =
    let s : SystemEquations = c.args.system.now in
    let p : ℕ = c.args.principal in
    let node : ℕ = c.in-Some.node in
    (use_read s p (rank s p node) node (next_read s p node c.loop-next.next c.loop-next.invariant.next
    c.in-Some.is)).inside

pub loop-next-smaller : goal.loop-next-smaller
loop-next-smaller g c =
    let s : SystemEquations = c.args.system.now in
    let p : ℕ = c.args.principal in
    let node : ℕ = c.in-Some.node in
    let k : ℕ = rank s p node in
    let found : slice_get (uses_of p (pieces_of s.rows)) k ≡ Some node =
    next_read s p node c.loop-next.next c.loop-next.invariant.next c.in-Some.is in
    let most : k < length (uses_of p (pieces_of s.rows)) = (use_read s p k node found).most in
    let before : uses_left s p c.loop-next.next ≡ suc k = ap (uses_left s p) c.in-Some.is in
    let after : uses_left s p c.use_before-next.result ≡ k =
    next-left s p k c.use_before-next.result (omega (arith, most)) (c.use_before-next.ensures.exact p k found) in
    omega (arith, before, after)

pub loop-next-preserved : goal.loop-next-preserved
loop-next-preserved g c =
    let s : SystemEquations = c.args.system.now in
    let p : ℕ = c.args.principal in
    let node : ℕ = c.in-Some.node in
    let k : ℕ = rank s p node in
    let found : slice_get (uses_of p (pieces_of s.rows)) k ≡ Some node =
    next_read s p node c.loop-next.next c.loop-next.invariant.next c.in-Some.is in
    let most : k ≤ length (uses_of p (pieces_of s.rows)) =
    (let less = (use_read s p k node found).most in omega (arith, less)) in
    let before : c.use_before-next.result ≡ use_before_at (uses_of p (pieces_of s.rows)) k =
    c.use_before-next.ensures.exact p k found in
    record {
      counts = c.in-Ok.ensures.counts ∙ c.loop-next.invariant.counts;
      buckets = c.in-Ok.ensures.buckets ∙ c.loop-next.invariant.buckets;
      longer = longer-trans c.args.self.now.buckets.items c.loop-next.self.buckets.items c.climb.new.self.buckets.items
          c.loop-next.invariant.longer c.in-Ok.ensures.longer;
      trailed = λ h. c.in-Ok.ensures.trailed (c.loop-next.invariant.trailed h);
      next = next-is s p k c.use_before-next.result most before;
      visiting = subst (λ n. VisitsAt s c.args.value p n c.args.levels.now.values.items c.args.self.now.counts.items
          c.args.self.now.buckets.items c.climb.new.self.counts.items c.climb.new.self.buckets.items c.args.steps.now
          c.use_before-next.new.steps) (sym (next-left s p k c.use_before-next.result most before))
          (goes_on_at s c.args.value p k node c.args.levels.now.values.items c.args.self.now.counts.items
          c.loop-next.self.counts.items c.climb.new.self.counts.items c.args.self.now.buckets.items
          c.loop-next.self.buckets.items c.climb.new.self.buckets.items c.args.steps.now c.loop-next.steps
          c.climb.new.steps c.use_before-next.new.steps found
          (subst (λ next. VisitsAt s c.args.value p (uses_left s p next) c.args.levels.now.values.items
          c.args.self.now.counts.items c.args.self.now.buckets.items c.loop-next.self.counts.items
          c.loop-next.self.buckets.items c.args.steps.now c.loop-next.steps) c.in-Some.is
          c.loop-next.invariant.visiting) c.in-Ok.ensures.climbs c.use_before-next.ensures.ticks);
    }

pub returns-in-Err-clause-visits : goal.returns-in-Err-clause-visits
returns-in-Err-clause-visits g c =
    let s : SystemEquations = c.args.system.now in
    let p : ℕ = c.args.principal in
    let node : ℕ = c.in-Some.node in
    breaks_at s c.args.value p (rank s p node) node c.args.levels.now.values.items c.args.self.now.counts.items
    c.loop-next.self.counts.items c.args.self.now.buckets.items c.loop-next.self.buckets.items c.args.steps.now
    c.loop-next.steps c.climb.new.steps
    (next_read s p node c.loop-next.next c.loop-next.invariant.next c.in-Some.is)
    (subst (λ next. VisitsAt s c.args.value p (uses_left s p next) c.args.levels.now.values.items
    c.args.self.now.counts.items c.args.self.now.buckets.items c.loop-next.self.counts.items
    c.loop-next.self.buckets.items c.args.steps.now c.loop-next.steps) c.in-Some.is
    c.loop-next.invariant.visiting) c.in-Err.ensures.climbs

pub returns-clause-visits : goal.returns-clause-visits
returns-clause-visits g c =
    let s : SystemEquations = c.args.system.now in
    let p : ℕ = c.args.principal in
    ends_at s c.args.value p c.args.levels.now.values.items c.args.self.now.counts.items c.loop-next.self.counts.items
    c.args.self.now.buckets.items c.loop-next.self.buckets.items c.args.steps.now c.loop-next.steps
    (subst (λ next. VisitsAt s c.args.value p (uses_left s p next) c.args.levels.now.values.items
    c.args.self.now.counts.items c.args.self.now.buckets.items c.loop-next.self.counts.items
    c.loop-next.self.buckets.items c.args.steps.now c.loop-next.steps)
    (none_of c.loop-next.next c.in_default.not-Some) c.loop-next.invariant.visiting)
