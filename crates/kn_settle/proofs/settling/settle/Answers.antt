use Rattle.std.proofs.Common.{◌≡◌, ◌<◌, All, length, map, slice_index, sym, ap, ◌∙◌, subst}
use Rattle.kn_system.specs.Counts.{IsWithin}
use Rattle.kn_system.specs.Equations.{SystemEquations, node_total}
use Rattle.kn_system.specs.Least.{at_first, least_levels}
use Rattle.kn_system.specs.Proofs.{levels_after, HasOneRowEach, IsProof}
use Rattle.kn_settle.specs.Blank.{Sizes}
use Rattle.kn_settle.specs.Counters.{most_ticks}
use Rattle.kn_settle.proofs.RequesterLists.{own-low, own-query}
use Rattle.kn_settle.proofs.Trails.{blank-same}
use Rattle.kn_settle.proofs.settling.settle.Goals as goal

pub of-query-requires-clause-low : goal.of-query-requires-clause-low
of-query-requires-clause-low g c =
    let s : SystemEquations = c.args.system.now in
    subst (λ n. All (λ ceiling. ceiling < n) (map (λ row. row.ceiling) s.rows)) (sym c.levels-2.ensures.exact)
    (own-low s.levels (length s.requesters) s.rows c.levels-2.ensures.well_formed.rows_fit)

pub settle_in-requires-clause-blank : goal.settle_in-requires-clause-blank
settle_in-requires-clause-blank g c =
    let s : SystemEquations = c.args.system.now in
    let same : c.of-query.result ≡ s =
    own-query s c.of-query.result c.levels-2.result c.as_slice-requesters.result.now c.in_ok-requesters.requesters
    c.of-query.ensures c.levels-2.ensures.exact c.as_slice-requesters.ensures c.in_ok-requesters.ensures.flags in
    let sizes : _ ≡ _ = c.scratch.view_is ∙ c.in_ok-fit.ensures in
    blank-same _ _ _ _ _ _ _ _ _ _ _
    (ap (λ (x : Sizes). x.principals) sizes ∙ c.principals.ensures.exact
    ∙ sym (ap (λ (x : SystemEquations). length x.requesters) same))
    (ap (λ (x : Sizes). x.nodes) sizes ∙ c.nodes.ensures ∙ sym (ap (λ (x : SystemEquations). node_total x.rows) same))
    (ap (λ (x : Sizes). x.levels) sizes ∙ c.levels.ensures.exact ∙ sym (ap (λ (x : SystemEquations). x.levels) same))
    c.scratch.invariant

pub returns-in_err-settled-clause-ticks : goal.returns-in_err-settled-clause-ticks
returns-in_err-settled-clause-ticks g c =
    let s : SystemEquations = c.args.system.now in
    let same : c.of-query.result ≡ s =
    own-query s c.of-query.result c.levels-2.result c.as_slice-requesters.result.now c.in_ok-requesters.requesters
    c.of-query.ensures c.levels-2.ensures.exact c.as_slice-requesters.ensures c.in_ok-requesters.ensures.flags in
    subst (λ (x : SystemEquations). IsWithin (most_ticks x) c.args.steps.now c.settle_in.new.steps) same
    c.in_err-settled.ensures.ticks

pub returns-in_err-from_slice-clause-ticks : goal.returns-in_err-from_slice-clause-ticks
returns-in_err-from_slice-clause-ticks g c =
    let s : SystemEquations = c.args.system.now in
    let same : c.of-query.result ≡ s =
    own-query s c.of-query.result c.levels-2.result c.as_slice-requesters.result.now c.in_ok-requesters.requesters
    c.of-query.ensures c.levels-2.ensures.exact c.as_slice-requesters.ensures c.in_ok-requesters.ensures.flags in
    subst (λ (x : SystemEquations). IsWithin (most_ticks x) c.args.steps.now c.settle_in.new.steps) same
    c.in_ok-settled.ensures.ticks

pub returns-clause-levels : goal.returns-clause-levels
returns-clause-levels g c =
    let s : SystemEquations = c.args.system.now in
    let same : c.of-query.result ≡ s =
    own-query s c.of-query.result c.levels-2.result c.as_slice-requesters.result.now c.in_ok-requesters.requesters
    c.of-query.ensures c.levels-2.ensures.exact c.as_slice-requesters.ensures c.in_ok-requesters.ensures.flags in
    c.in_ok-from_slice.ensures ∙ c.as_slice.ensures.value ∙ c.in_ok-settled.ensures.levels ∙ ap least_levels same

pub returns-clause-proof : goal.returns-clause-proof
returns-clause-proof g c =
    let s : SystemEquations = c.args.system.now in
    let same : c.of-query.result ≡ s =
    own-query s c.of-query.result c.levels-2.result c.as_slice-requesters.result.now c.in_ok-requesters.requesters
    c.of-query.ensures c.levels-2.ensures.exact c.as_slice-requesters.ensures c.in_ok-requesters.ensures.flags in
    subst (λ (x : SystemEquations). IsProof x c.in_ok-settled.settled.proof.rows (slice_index (least_levels x) 0)) same
    c.in_ok-settled.ensures.proof

pub returns-clause-after : goal.returns-clause-after
returns-clause-after g c =
    let s : SystemEquations = c.args.system.now in
    let same : c.of-query.result ≡ s =
    own-query s c.of-query.result c.levels-2.result c.as_slice-requesters.result.now c.in_ok-requesters.requesters
    c.of-query.ensures c.levels-2.ensures.exact c.as_slice-requesters.ensures c.in_ok-requesters.ensures.flags in
    subst (λ (x : SystemEquations). levels_after (at_first x) c.in_ok-settled.settled.proof.rows ≡ least_levels x) same
    c.in_ok-settled.ensures.after

pub returns-clause-rows : goal.returns-clause-rows
returns-clause-rows g c =
    let s : SystemEquations = c.args.system.now in
    let same : c.of-query.result ≡ s =
    own-query s c.of-query.result c.levels-2.result c.as_slice-requesters.result.now c.in_ok-requesters.requesters
    c.of-query.ensures c.levels-2.ensures.exact c.as_slice-requesters.ensures c.in_ok-requesters.ensures.flags in
    subst (λ (x : SystemEquations). HasOneRowEach x (least_levels x) c.in_ok-settled.settled.proof.rows) same
    c.in_ok-settled.ensures.rows

pub returns-clause-ticks : goal.returns-clause-ticks
returns-clause-ticks g c =
    let s : SystemEquations = c.args.system.now in
    let same : c.of-query.result ≡ s =
    own-query s c.of-query.result c.levels-2.result c.as_slice-requesters.result.now c.in_ok-requesters.requesters
    c.of-query.ensures c.levels-2.ensures.exact c.as_slice-requesters.ensures c.in_ok-requesters.ensures.flags in
    subst (λ (x : SystemEquations). IsWithin (most_ticks x) c.args.steps.now c.settle_in.new.steps) same
    c.in_ok-settled.ensures.ticks
