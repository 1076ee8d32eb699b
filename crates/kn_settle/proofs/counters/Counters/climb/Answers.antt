use Rattle.std.proofs.Common.{◌≡◌, ◌<◌, ℕ, Bool, List, true, false, length, refl, sym, ap, ◌∙◌, subst, arith, rules}
use Rattle.std.proofs.Common.{Result, Ok, Err}
use Rattle.std.specs.Prelude.{OnOk}
use Rattle.std.proofs.lemmas.Result.{err_from_is_err_and}
use Rattle.kn_system.specs.declared.nodes.Up.{Up}
use Rattle.kn_system.specs.declared.nodes.Up.TheVariants.{Node, Row}
use Rattle.kn_system.specs.declared.rows.Piece.TheVariants.{Who}
use Rattle.kn_system.specs.Equations.{SystemEquations, node_total}
use Rattle.kn_settle.specs.Counters.{AreLonger, AreWaiting, FitsBelow, IsClimbed, IsCounted, IsPending, piece_at}
use Rattle.kn_settle.specs.Reach.{IsPut}
use Rattle.kn_settle.proofs.GateClimbs.{GoesOn, IsCountStep, up_rank, rank_below, starts, gate_stops, gate_goes_on}
use Rattle.kn_settle.proofs.NodeParents.{fits_below, up-fits}
use Rattle.kn_settle.proofs.ClimbsOverBases.{ends_at_put, breaks_at_row, breaks_at_gate, longer-put}
use Rattle.kn_settle.proofs.counters.Counters.climb.Goals as goal

pub loop-up-init : goal.loop-up-init
loop-up-init g c =
    let s = c.args.system.now in
    record {
      fits = fits_below s c.args.node (node_total s.rows) c.node-up.result.up (omega (arith, c.requires.in_range))
          (subst (FitsBelow s c.args.node) (sym c.node-up.ensures.up)
          (up-fits s c.args.node (Row 0) c.requires.well_formed c.requires.in_range));
      counts = refl;
      buckets = refl;
      trailed = λ h. h;
      climbing = starts s c.args.value c.args.node _ _ c.node-up.result.up _ _ c.node-up.ensures.up
          c.node-up.ensures.ticks;
    }

pub returns-in-Row-clause-climbs : goal.returns-in-Row-clause-climbs
returns-in-Row-clause-climbs g c = by c.put_row.result c.put_row.ensures.ok
  where
    s : SystemEquations
    s = c.args.system.now

    levels : List ℕ
    levels = c.args.levels.now.values.items

    within : c.in-Row.row < length s.rows
    within = subst (FitsBelow s (node_total s.rows)) c.in-Row.is c.loop-up.invariant.fits

    here : GoesOn s c.args.value c.args.node c.args.self.now.counts.items c.args.self.now.buckets.items
        (Row c.in-Row.row) c.loop-up.self.counts.items c.loop-up.self.buckets.items c.args.steps.now c.loop-up.steps
    here =
        subst (λ (u : Up). GoesOn s c.args.value c.args.node c.args.self.now.counts.items
        c.args.self.now.buckets.items u c.loop-up.self.counts.items c.loop-up.self.buckets.items c.args.steps.now
        c.loop-up.steps) c.in-Row.is c.loop-up.invariant.climbing

    by : {T E : Type 0} (r : Result T E)
        → OnOk r (IsPut s c.args.value levels c.in-Row.row c.loop-up.self.buckets.items
        c.put_row.new.self.buckets.items)
        → (marks : List Bool) (p : ℕ) → piece_at s c.args.node ≡ Who p
        → IsPending s marks c.args.self.now.counts.items c.args.node
        → AreWaiting s c.args.value levels marks c.args.self.now.buckets.items
        → (after : List Bool) × IsClimbed s marks after c.args.node c.args.steps.now c.put_row.new.steps
        × OnOk r (IsCounted s after c.put_row.new.self.counts.items (node_total s.rows)
        × AreWaiting s c.args.value levels after c.put_row.new.self.buckets.items)
    by (Ok done) put = λ marks p leaf pending waits.
        let r = ends_at_put s c.args.value c.args.node c.in-Row.row levels c.args.self.now.counts.items
        c.loop-up.self.counts.items c.args.self.now.buckets.items c.loop-up.self.buckets.items
        c.put_row.new.self.buckets.items c.args.steps.now c.loop-up.steps c.put_row.new.steps c.requires.well_formed
        c.requires.level within c.put_row.ensures.ticks here put marks p leaf pending waits in
        let (after, climbed, counted, waiting) = r in (
          after,
          climbed,
          (
            subst (λ (cs : List ℕ). IsCounted s after cs (node_total s.rows)) (sym c.put_row.ensures.counts) counted,
            waiting,
          ),
        )
    by (Err fault) put =
        breaks_at_row s c.args.value c.args.node c.in-Row.row levels c.args.self.now.counts.items
        c.loop-up.self.counts.items c.args.self.now.buckets.items c.loop-up.self.buckets.items c.args.steps.now
        c.loop-up.steps c.put_row.new.steps c.put_row.ensures.ticks here

pub returns-in-Row-clause-longer : goal.returns-in-Row-clause-longer
returns-in-Row-clause-longer g c = by c.put_row.result c.put_row.ensures.ok
  where
    s : SystemEquations
    s = c.args.system.now

    buckets : List (List ℕ)
    buckets = c.loop-up.self.buckets.items

    within : c.args.value < length buckets
    within = omega (arith, c.requires.level, c.requires.buckets, ap length c.loop-up.invariant.buckets)

    by : {T E : Type 0} (r : Result T E)
        → OnOk r (IsPut s c.args.value c.args.levels.now.values.items c.in-Row.row buckets
        c.put_row.new.self.buckets.items)
        → OnOk r (AreLonger c.args.self.now.buckets.items c.put_row.new.self.buckets.items)
    by (Ok done) put =
        subst (λ (b : List (List ℕ)). AreLonger b c.put_row.new.self.buckets.items) c.loop-up.invariant.buckets
        (longer-put s c.args.value c.args.levels.now.values.items buckets c.put_row.new.self.buckets.items
        c.in-Row.row within put)
    by (Err fault) put = tt

pub returns-in_err-full-in-Node-clause-climbs : goal.returns-in_err-full-in-Node-clause-climbs
returns-in_err-full-in-Node-clause-climbs g c =
    let s = c.args.system.now in
    let gate = c.in-Node.gate in
    let here = subst (λ (u : Up). GoesOn s c.args.value c.args.node c.args.self.now.counts.items
    c.args.self.now.buckets.items u c.loop-up.self.counts.items c.loop-up.self.buckets.items c.args.steps.now
    c.loop-up.steps) c.in-Node.is c.loop-up.invariant.climbing in
    let told = err_from_is_err_and c.from_residual.result c.from_residual.ensures.1 in
    λ marks p leaf pending waits. rw told.1 (
    breaks_at_gate s c.args.value c.args.node gate c.args.levels.now.values.items c.args.self.now.counts.items
    c.loop-up.self.counts.items c.args.self.now.buckets.items c.loop-up.self.buckets.items c.args.steps.now
    c.loop-up.steps c.node-above.new.steps c.node-above.ensures.ticks here
    marks p leaf pending waits)

pub returns-then-not-full-clause-climbs : goal.returns-then-not-full-clause-climbs
returns-then-not-full-clause-climbs g c = λ marks p leaf pending waits.
    let s = c.args.system.now in
    let gate = c.in-Node.gate in
    let here = subst (λ (u : Up). GoesOn s c.args.value c.args.node c.args.self.now.counts.items
    c.args.self.now.buckets.items u c.loop-up.self.counts.items c.loop-up.self.buckets.items c.args.steps.now
    c.loop-up.steps) c.in-Node.is c.loop-up.invariant.climbing in
    let no : c.in_ok-full-in-Node.full ≡ false = search rules in
    let step : IsCountStep c.loop-up.self.counts.items c.count.new.self.counts.items gate c.need_of.result false =
    subst (IsCountStep c.loop-up.self.counts.items c.count.new.self.counts.items gate c.need_of.result) no
    (record {
      full = c.in_ok-full-in-Node.ensures.full;
      kept = c.in_ok-full-in-Node.ensures.kept;
      more =
          c.in_ok-full-in-Node.ensures.more;
      fulfilled = c.in_ok-full-in-Node.ensures.fulfilled;
    }) in
    let r = gate_stops s c.args.value c.args.node gate c.need_of.result c.node-above.result.sort
    c.args.self.now.counts.items c.loop-up.self.counts.items c.count.new.self.counts.items
    c.args.self.now.buckets.items c.loop-up.self.buckets.items c.args.steps.now c.loop-up.steps
    c.node-above.new.steps c.requires.well_formed c.node-above.ensures.sort c.need_of.ensures step
    c.node-above.ensures.ticks here c.args.levels.now.values.items marks p leaf pending waits in
    let (after, climbed, counted, waiting) = r in (
      after,
      climbed,
      (
        counted,
        subst (AreWaiting s c.args.value c.args.levels.now.values.items after)
            (sym c.in_ok-full-in-Node.ensures.buckets) waiting,
      ),
    )

pub loop-up-smaller : goal.loop-up-smaller
loop-up-smaller g c =
    let s = c.args.system.now in
    let gate = c.in-Node.gate in
    let fits : FitsBelow s (node_total s.rows) (Node gate) =
    subst (FitsBelow s (node_total s.rows)) c.in-Node.is c.loop-up.invariant.fits in
    let below : FitsBelow s gate c.node-above.result.up =
    subst (FitsBelow s gate) (sym c.node-above.ensures.up) (up-fits s gate (Row 0) c.requires.well_formed fits.0) in
    omega (arith, rank_below s gate c.node-above.result.up below, ap up_rank c.in-Node.is)

pub loop-up-preserved : goal.loop-up-preserved
loop-up-preserved g c =
    let s = c.args.system.now in
    let gate = c.in-Node.gate in
    let fits : FitsBelow s (node_total s.rows) (Node gate) =
    subst (FitsBelow s (node_total s.rows)) c.in-Node.is c.loop-up.invariant.fits in
    let below : FitsBelow s gate c.node-above.result.up =
    subst (FitsBelow s gate) (sym c.node-above.ensures.up) (up-fits s gate (Row 0) c.requires.well_formed fits.0) in
    let here = subst (λ (u : Up). GoesOn s c.args.value c.args.node c.args.self.now.counts.items
    c.args.self.now.buckets.items u c.loop-up.self.counts.items c.loop-up.self.buckets.items c.args.steps.now
    c.loop-up.steps) c.in-Node.is c.loop-up.invariant.climbing in
    let yes_now : c.in_ok-full-in-Node.full ≡ true = search rules in
    let step : IsCountStep c.loop-up.self.counts.items c.count.new.self.counts.items gate c.need_of.result true =
    subst (IsCountStep c.loop-up.self.counts.items c.count.new.self.counts.items gate c.need_of.result) yes_now
    (record {
      full = c.in_ok-full-in-Node.ensures.full;
      kept = c.in_ok-full-in-Node.ensures.kept;
      more =
          c.in_ok-full-in-Node.ensures.more;
      fulfilled = c.in_ok-full-in-Node.ensures.fulfilled;
    }) in
    record {
      fits = fits_below s gate (node_total s.rows) c.node-above.result.up (omega (arith, fits.0)) below;
      counts = c.in_ok-full-in-Node.ensures.size ∙ c.loop-up.invariant.counts;
      buckets = c.in_ok-full-in-Node.ensures.buckets ∙ c.loop-up.invariant.buckets;
      trailed = λ h. c.in_ok-full-in-Node.ensures.trailed (c.loop-up.invariant.trailed h);
      climbing = subst (λ (b : List (List ℕ)). GoesOn s c.args.value c.args.node c.args.self.now.counts.items
          c.args.self.now.buckets.items c.node-above.result.up c.count.new.self.counts.items b c.args.steps.now
          c.node-above.new.steps) (sym c.in_ok-full-in-Node.ensures.buckets)
          (gate_goes_on s c.args.value c.args.node gate c.need_of.result c.node-above.result.sort c.node-above.result.up
          c.args.self.now.counts.items c.loop-up.self.counts.items c.count.new.self.counts.items
          c.args.self.now.buckets.items c.loop-up.self.buckets.items c.args.steps.now c.loop-up.steps
          c.node-above.new.steps c.requires.well_formed c.node-above.ensures.sort c.need_of.ensures step
          c.node-above.ensures.ticks c.node-above.ensures.up here);
    }
