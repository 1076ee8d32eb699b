use Rattle.std.proofs.Common.{◌≡◌, ◌-◌, ◌<◌, ℕ, Bool, false, List, length, replicate, slice_index, ap, ◌∙◌, arith}
use Rattle.std.proofs.lemmas.List.{get_or_default, length-replicate}
use Rattle.kn_system.specs.Equations.{SystemEquations, node_total}
use Rattle.kn_settle.specs.Counters.{IsCounting}
use Rattle.kn_settle.proofs.BucketSettling.{used-here}
use Rattle.kn_settle.proofs.SettlingStart.{IsDone, counting-begun, settled-all, settled-begun, used-most}
use Rattle.kn_settle.proofs.StepBounds.{used-reached}
use Rattle.kn_settle.proofs.Trails.{trailed-start}
use Rattle.kn_settle.proofs.settling.settle_in.Goals as goal

pub returns-in_err-reach_requesters-clause-ticks : goal.returns-in_err-reach_requesters-clause-ticks
returns-in_err-reach_requesters-clause-ticks g c =
    let s : SystemEquations = c.args.system.now in
    let none : List Bool = replicate (node_total s.rows) false in
    let v : ℕ = c.levels-value.result - 1 in
    let levels : List ℕ = c.args.levels.now.values.items in
    let size : length levels ≡ length s.requesters = ap length c.requires.blank.values_none
    ∙ length-replicate (length s.requesters) 0 in
    let begun : IsCounting s v levels none c.args.counters.now.counts.items c.args.counters.now.buckets.items =
    counting-begun s v levels c.args.counters.now.counts.items c.args.counters.now.buckets.items
    c.levels-value.ensures.well_formed c.requires.blank.values_none c.requires.blank.counts_none
    c.requires.blank.buckets_none in
    let (after, used, rest) =
    c.in_err-reach_requesters.ensures.counting c.args.steps.now none begun
    (used-here s none levels c.args.steps.now (length-replicate (node_total s.rows) false) size) in
    used-most s after c.reach_requesters.new.levels.values.items c.args.steps.now c.reach_requesters.new.steps used

pub loop-value-init : goal.loop-value-init
loop-value-init g c =
    let s : SystemEquations = c.args.system.now in
    let none : List Bool = replicate (node_total s.rows) false in
    let v : ℕ = c.levels-value.result - 1 in
    let levels : List ℕ = c.args.levels.now.values.items in
    let size : length levels ≡ length s.requesters = ap length c.requires.blank.values_none
    ∙ length-replicate (length s.requesters) 0 in
    let counts : length c.args.counters.now.counts.items ≡ node_total s.rows = ap length c.requires.blank.counts_none
    ∙ length-replicate (node_total s.rows) 0 in
    let buckets : length c.args.counters.now.buckets.items ≡ s.levels = ap length c.requires.blank.buckets_none
    ∙ length-replicate s.levels _ in
    let begun : IsCounting s v levels none c.args.counters.now.counts.items c.args.counters.now.buckets.items =
    counting-begun s v levels c.args.counters.now.counts.items c.args.counters.now.buckets.items
    c.levels-value.ensures.well_formed c.requires.blank.values_none c.requires.blank.counts_none
    c.requires.blank.buckets_none in
    record {
      top = omega (arith, c.levels-value.ensures.exact, c.levels-value.ensures.well_formed.levels_fit);
      settled = settled-begun s v c.reach_requesters.new.levels.values.items c.new-rows.result
          (ap (λ n. n - 1) c.levels-value.ensures.exact) c.in_ok-reach_requesters.ensures.levels c.new-rows.ensures
          (c.settling_starts.ensures s c.levels-value.ensures.well_formed);
      reached = c.in_ok-reach_requesters.ensures.reached
          (trailed-start levels c.args.levels.now.trail (length s.requesters) c.requires.blank.values_none
          c.requires.blank.reached_none);
      counted = c.in_ok-reach_requesters.ensures.counted
          (trailed-start c.args.counters.now.counts.items c.args.counters.now.trail (node_total s.rows)
          c.requires.blank.counts_none c.requires.blank.counted_none);
      counts = c.in_ok-reach_requesters.ensures.counts ∙ counts;
      buckets = c.in_ok-reach_requesters.ensures.buckets ∙ buckets;
      marked = c.in_ok-reach_requesters.ensures.counting c.args.steps.now none begun
          (used-here s none levels c.args.steps.now (length-replicate (node_total s.rows) false) size);
    }

pub returns-clause-value : goal.returns-clause-value
returns-clause-value g c =
    let s : SystemEquations = c.args.system.now in
    let done : IsDone s c.loop-value.levels.values.items c.loop-value.rows =
    settled-all s c.loop-value.value c.loop-value.levels.values.items c.loop-value.rows (omega arith)
    c.loop-value.invariant.settled c.settling_ends.ensures c.proof_determines_level.ensures in
    let levels : List ℕ = c.loop-value.levels.values.items in
    let within : 0 < length levels =
    omega (arith, c.loop-value.invariant.settled.size, c.levels-value.ensures.well_formed.principals_fit.0) in
    c.index.ensures ∙ get_or_default levels 0 c.index.result.now 0 within
    ∙ ap (λ (ls : List ℕ). slice_index ls 0) done.least

pub returns-clause-proof : goal.returns-clause-proof
returns-clause-proof g c =
    let s : SystemEquations = c.args.system.now in
    let done : IsDone s c.loop-value.levels.values.items c.loop-value.rows =
    settled-all s c.loop-value.value c.loop-value.levels.values.items c.loop-value.rows (omega arith)
    c.loop-value.invariant.settled c.settling_ends.ensures c.proof_determines_level.ensures in
    done.proof

pub returns-clause-after : goal.returns-clause-after
returns-clause-after g c =
    let s : SystemEquations = c.args.system.now in
    let done : IsDone s c.loop-value.levels.values.items c.loop-value.rows =
    settled-all s c.loop-value.value c.loop-value.levels.values.items c.loop-value.rows (omega arith)
    c.loop-value.invariant.settled c.settling_ends.ensures c.proof_determines_level.ensures in
    done.after

pub returns-clause-rows : goal.returns-clause-rows
returns-clause-rows g c =
    let s : SystemEquations = c.args.system.now in
    let done : IsDone s c.loop-value.levels.values.items c.loop-value.rows =
    settled-all s c.loop-value.value c.loop-value.levels.values.items c.loop-value.rows (omega arith)
    c.loop-value.invariant.settled c.settling_ends.ensures c.proof_determines_level.ensures in
    c.proofs_have_one_row_each.ensures s c.loop-value.rows _ done.proof

pub returns-clause-reached : goal.returns-clause-reached
returns-clause-reached g c =
    let s : SystemEquations = c.args.system.now in
    let done : IsDone s c.loop-value.levels.values.items c.loop-value.rows =
    settled-all s c.loop-value.value c.loop-value.levels.values.items c.loop-value.rows (omega arith)
    c.loop-value.invariant.settled c.settling_ends.ensures c.proof_determines_level.ensures in
    let (marks, used, counting) = c.loop-value.invariant.marked in
    used-reached s c.loop-value.value c.loop-value.levels.values.items marks c.loop-value.counters.counts.items
    c.loop-value.counters.buckets.items c.args.steps.now c.loop-value.steps c.levels-value.ensures.well_formed
    c.loop-value.invariant.settled.size counting used done.least

pub returns-clause-levels : goal.returns-clause-levels
returns-clause-levels g c =
    let s : SystemEquations = c.args.system.now in
    let done : IsDone s c.loop-value.levels.values.items c.loop-value.rows =
    settled-all s c.loop-value.value c.loop-value.levels.values.items c.loop-value.rows (omega arith)
    c.loop-value.invariant.settled c.settling_ends.ensures c.proof_determines_level.ensures in
    done.least
