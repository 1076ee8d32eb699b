use Rattle.std.proofs.Common.{◌≡◌, ℕ, List, [], length, replicate, slice_index, IfOk, OnOk, sym, ap, ◌∙◌, subst}
use Rattle.kn_settle.specs.Counters.{most_ticks}
use Rattle.kn_system.specs.Counts.{IsWithin}
use Rattle.kn_system.specs.Equations.{SystemEquations}
use Rattle.kn_system.specs.Least.{at_first, least_levels}
use Rattle.kn_system.specs.Proofs.{levels_after, HasOneRowEach, IsProof}
use Rattle.kn_settle.specs.Reach.{most_reached}
use Rattle.std.proofs.lemmas.List.{length-replicate}
use Rattle.kn_settle.specs.Blank.{Sizes}
use Rattle.kn_settle.proofs.Trails.{blank-same, sizes-same}
use Rattle.kn_settle.proofs.QuerySystems.{query_system-blank, query_system-flags, query_system-levels}
use Rattle.kn_settle.proofs.QuerySystems.{query_system-nodes}
use Rattle.kn_settle.proofs.QuerySystems.{query_system-others, query_system-size}
use Rattle.kn_settle.proofs.settling.settle_on_demand.Goals as goal

pub settle_in-settled-requires-clause-flags : goal.settle_in-settled-requires-clause-flags
settle_in-settled-requires-clause-flags g c =
    query_system-flags c.args.base.now c.of-query.result c.args.levels c.args.requesters.now
    (g.C.Ceilings.each c.args.ceilings.now) c.of-query.ensures

pub settle_in-settled-requires-clause-others : goal.settle_in-settled-requires-clause-others
settle_in-settled-requires-clause-others g c =
    query_system-others c.args.base.now c.of-query.result c.args.levels c.args.requesters.now
    (g.C.Ceilings.each c.args.ceilings.now) c.of-query.ensures c.requires.others

pub settle_in-settled-requires-clause-blank : goal.settle_in-settled-requires-clause-blank
settle_in-settled-requires-clause-blank g c =
    query_system-blank c.args.base.now c.of-query.result c.args.levels c.args.requesters.now
    (g.C.Ceilings.each c.args.ceilings.now) c.of-query.ensures _ _ _ _ _
    (blank-same _ _ _ _ _ _ _ _ _ _ _ (ap (λ (x : Sizes). x.principals) (c.scratch.view_is ∙ c.requires.sizes))
    (ap (λ (x : Sizes). x.nodes) (c.scratch.view_is ∙ c.requires.sizes))
    (ap (λ (x : Sizes). x.levels) (c.scratch.view_is ∙ c.requires.sizes)) c.scratch.invariant)

pub returns-clause-value : goal.returns-clause-value
returns-clause-value g c =
    subst (λ (s : SystemEquations). IfOk c.settle_in-settled.result
    (λ settled. settled.value ≡ slice_index (least_levels s) 0)) c.of-query.ensures c.settle_in-settled.ensures.value

pub returns-clause-proof : goal.returns-clause-proof
returns-clause-proof g c =
    subst (λ (s : SystemEquations). IfOk c.settle_in-settled.result
    (λ settled. IsProof s settled.proof.rows (slice_index (least_levels s) 0))) c.of-query.ensures
    c.settle_in-settled.ensures.proof

pub returns-clause-after : goal.returns-clause-after
returns-clause-after g c =
    subst (λ (s : SystemEquations). IfOk c.settle_in-settled.result
    (λ settled. levels_after (at_first s) settled.proof.rows ≡ least_levels s)) c.of-query.ensures
    c.settle_in-settled.ensures.after

pub returns-clause-rows : goal.returns-clause-rows
returns-clause-rows g c =
    subst (λ (s : SystemEquations). IfOk c.settle_in-settled.result
    (λ settled. HasOneRowEach s (least_levels s) settled.proof.rows)) c.of-query.ensures
    c.settle_in-settled.ensures.rows

pub returns-clause-ticks : goal.returns-clause-ticks
returns-clause-ticks g c =
    subst (λ (s : SystemEquations). IsWithin (most_ticks s) c.args.steps.now c.settle_in-settled.new.steps)
    c.of-query.ensures c.settle_in-settled.ensures.ticks

pub returns-clause-reached : goal.returns-clause-reached
returns-clause-reached g c =
    subst (λ (s : SystemEquations). OnOk c.settle_in-settled.result
    (IsWithin (most_reached s) c.args.steps.now c.settle_in-settled.new.steps)) c.of-query.ensures
    c.settle_in-settled.ensures.reached

pub invariant_of-scratch : goal.invariant_of-scratch
invariant_of-scratch g c = record {
  values_none = c.clear.ensures.values
      ∙ ap (λ n. replicate n 0) (sym (ap length c.clear.ensures.values ∙ length-replicate _ 0));
  reached_none = c.clear.ensures.trail;
  counts_none = c.clear-2.ensures.counts
      ∙ ap (λ n. replicate n 0) (sym (ap length c.clear-2.ensures.counts ∙ length-replicate _ 0));
  counted_none = c.clear-2.ensures.trail;
  buckets_none = c.clear-2.ensures.buckets
      ∙ ap (λ n. replicate n []) (sym (ap length c.clear-2.ensures.buckets ∙ length-replicate _ []));
}

pub returns-clause-sizes : goal.returns-clause-sizes
returns-clause-sizes g c =
    let base : SystemEquations = c.args.base.now in
    let s : SystemEquations = c.of-query.result in
    let each : List ℕ = g.C.Ceilings.each c.args.ceilings.now in
    sizes-same _ _ _ _ _ _
    (ap length c.clear.ensures.values ∙ length-replicate _ 0 ∙ c.settle_in-settled.ensures.levels_size
    ∙ query_system-size base s c.args.levels c.args.requesters.now each c.of-query.ensures)
    (ap length c.clear-2.ensures.counts ∙ length-replicate _ 0 ∙ c.settle_in-settled.ensures.counts_size
    ∙ query_system-nodes base s c.args.levels c.args.requesters.now each c.of-query.ensures)
    (ap length c.clear-2.ensures.buckets ∙ length-replicate _ [] ∙ c.settle_in-settled.ensures.buckets_size
    ∙ query_system-levels base s c.args.levels c.args.requesters.now each c.of-query.ensures)
    ∙ sym c.requires.sizes
