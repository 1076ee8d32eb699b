use Rattle.std.proofs.Common.{◌≡◌, ◌∙◌, ◌<◌, ◌≤◌, ℕ, List, length, sym, ap, subst, arith}
use Rattle.std.specs.Prelude.{slice_index}
use Rattle.kn_system.specs.Equations.{SystemEquations, node_total, leaf_total}
use Rattle.kn_system.specs.Least.{least_levels}
use Rattle.kn_generate.specs.Measured.{granted_count}
use Rattle.kn_generate.proofs.Counts.{counts-named}
use Rattle.kn_generate.proofs.QueryLemmas.{least_fit, policy_low}
use Rattle.kn_generate.proofs.query.measure_built.Goals as goal

pub bounds-levels-0 : goal.bounds-levels-0
bounds-levels-0 c =
    let s = c.system-system.result.now in
    let size : length c.as_slice-levels.result.now ≡ length s.requesters =
    ap length (c.as_slice-levels.ensures ∙ c.in_ok-settled.ensures.levels)
    ∙ (least_fit s (c.rounds_keep_levels.ensures s c.levels-count.ensures.well_formed)).size in
    let some : 1 ≤ length s.requesters = c.levels-count.ensures.well_formed.principals_fit.0 in
    omega (arith, size, some)

pub count_granted-requires : goal.count_granted-requires
count_granted-requires c =
    let s = c.system-system.result.now in
    record {
      one_each = ap length (c.as_slice-levels.ensures ∙ c.in_ok-settled.ensures.levels)
          ∙ (least_fit s (c.rounds_keep_levels.ensures s c.levels-count.ensures.well_formed)).size;
    }

pub returns-clause-measured : goal.returns-clause-measured
returns-clause-measured c = λ e is.
    let s : SystemEquations = c.args.built.now.system in
    let same = c.system-system.ensures in
    let levels : c.as_slice-levels.result.now ≡ least_levels s = c.as_slice-levels.ensures
    ∙ c.in_ok-settled.ensures.levels ∙ ap least_levels same in
    counts-named e c.args.built.now _ is (c.least_levels_are_least.ensures s)
    (least_fit s (c.rounds_keep_levels.ensures s is.well_formed)).size
    (ap (λ (ls : List ℕ). slice_index ls 0) levels) (record {
      rows = c.count_granted.ensures
          ∙ ap (λ (x : SystemEquations). granted_count x.requesters c.as_slice-levels.result.now) same
          ∙ ap (granted_count s.requesters) levels;
      principals = c.principals.ensures.exact ∙ ap (λ (x : SystemEquations). length x.requesters) same;
      nodes = c.nodes.ensures ∙ ap (λ (x : SystemEquations). node_total x.rows) same;
      uses = c.uses_total.ensures ∙ ap (λ (x : SystemEquations). leaf_total x.rows) same;
      levels = c.levels-count.ensures.exact ∙ ap (λ (x : SystemEquations). x.levels) same;
    })

pub returns-clause-low : goal.returns-clause-low
returns-clause-low c =
    let s = c.system-system.result.now in
    let levels : least_levels s ≡ c.as_slice-levels.result.now =
    sym (c.as_slice-levels.ensures ∙ c.in_ok-settled.ensures.levels) in
    let low : slice_index (least_levels s) 0 < s.levels =
    policy_low s (c.rounds_keep_levels.ensures s c.levels-count.ensures.well_formed)
    c.levels-count.ensures.well_formed.principals_fit.0 in
    subst (λ (x : SystemEquations). slice_index c.as_slice-levels.result.now 0 < x.levels) c.system-system.ensures
    (subst (λ (ls : List ℕ). slice_index ls 0 < s.levels) levels low)
