use Rattle.std.proofs.Common.{◌≡◌, ℕ, ◌+◌, ◌<◌, List, [], ◌∷◌, ◌++◌, take, length, get_or, slice_set, sym, ap, ◌∙◌}
use Rattle.std.proofs.Common.{subst, arith, rules}
use Rattle.std.proofs.lemmas.List.{take_more}
use Rattle.kn_proof.specs.declared.row.Row.{Row as ProofRow}
use Rattle.kn_system.specs.Equations.{SystemEquations, row_at}
use Rattle.kn_system.specs.Lawful.{GoesOn}
use Rattle.kn_system.specs.Least.{at_first}
use Rattle.kn_system.specs.Proofs.{levels_after, AreSteps, IsStep}
use Rattle.kn_check.proofs.NodesRead.{support_nodes-take, support_nodes-more}
use Rattle.kn_check.proofs.rows.follow_rows.Goals as goal

abbrev none : ProofRow
none = record { principal = 0; value = 0; by = 0 }

pub returns-in_err-test_names-clause-ticks : goal.returns-in_err-test_names-clause-ticks
returns-in_err-test_names-clause-ticks g c = λ fits.
    let before = c.loop-number.invariant.ticks fits in
    let all = support_nodes-take c.args.system.now c.args.rows.now c.loop-number.number in
    (before.0, omega (arith, before, all))

pub returns-in_err-test_support-clause-ticks : goal.returns-in_err-test_support-clause-ticks
returns-in_err-test_support-clause-ticks g c = λ fits.
    let s : SystemEquations = c.args.system.now in
    let rows : List ProofRow = c.args.rows.now in
    let k : ℕ = c.loop-number.number in
    let before = c.loop-number.invariant.ticks fits in
    let read = ap (λ items. length (row_at s.rows (get_or items k none).by).formula) c.as_slice-items.ensures in
    let more = support_nodes-more s rows k none (omega arith) in
    let all = support_nodes-take s rows (k + 1) in (
      omega (arith, before, c.test_support.ensures.ticks),
      omega (arith, before, read, more, all, c.test_support.ensures.ticks),
    )

pub loop-number-preserved : goal.loop-number-preserved
loop-number-preserved g c =
    let s : SystemEquations = c.args.system.now in
    let rows : List ProofRow = c.args.rows.now in
    let k : ℕ = c.loop-number.number in
    let levels : List ℕ = c.loop-number.levels in
    let within : k < length rows = omega arith in
    let row : ProofRow = get_or rows k none in
    let same : get_or c.as_slice-items.result.now k none ≡ row =
    ap (λ items. get_or items k none) c.as_slice-items.ensures in
    let longer : take k rows ++ row ∷ [] ≡ take (k + 1) rows = sym (take_more rows k none within) in
    let step : IsStep s (levels_after (at_first s) (take k rows)) row =
    subst (λ ls. IsStep s ls row) c.loop-number.invariant.after
    (subst (IsStep s levels) same c.in_ok-test_support.ensures.ok) in
    let gone : GoesOn s (at_first s) (take k rows) row =
    c.proofs_go_on.ensures s (at_first s) (take k rows) row c.loop-number.invariant.steps step in
    let more = support_nodes-more s rows k none within in
    let read = ap (λ r. length (row_at s.rows r.by).formula) same in
    record {
      steps = subst (AreSteps s (at_first s)) longer gone.steps;
      after = ap (λ r. slice_set levels r.principal r.value) same
          ∙ ap (λ ls. slice_set ls row.principal row.value) c.loop-number.invariant.after ∙ sym gone.after
          ∙ ap (levels_after (at_first s)) longer;
      fit = search rules;
      ticks = λ fits.
          let before = c.loop-number.invariant.ticks fits in (
            omega (arith, before, c.test_support.ensures.ticks),
            omega (arith, before, read, more, c.test_support.ensures.ticks),
          );
    }
