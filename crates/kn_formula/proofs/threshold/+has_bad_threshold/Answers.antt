use Rattle.std.proofs.Common.{ap, sym, ◌∙◌}
use Rattle.kn_formula.specs.Trees.{is_bad_rule, has_bad_threshold}
use Rattle.kn_formula.proofs.TreeLemmas.{bad_threshold_who, none_more, threshold_found, threshold_over}
use Rattle.kn_formula.proofs.threshold.+has_bad_threshold.Goals as goal

pub returns-in-Who : goal.returns-in-Who
returns-in-Who t c = sym (ap has_bad_threshold c.in-Who.is ∙ bad_threshold_who c.in-Who.field-0)

pub loop-part-preserved : goal.loop-part-preserved
loop-part-preserved t c =
    none_more has_bad_threshold c.as_slice-part-items.result.now c.loop-part.part-index c.part-item.result
    c.loop-part-test.true c.part-item.is
    c.loop-part.invariant (sym c.has_bad_threshold.ensures ∙ c.if-has_bad_threshold.false)

pub returns-then-has_bad_threshold : goal.returns-then-has_bad_threshold
returns-then-has_bad_threshold t c =
    threshold_found c.args.written.now c.in-Several.rule c.in-Several.parts c.as_slice-part-items.result.now
    c.loop-part.part-index c.part-item.result
    c.in-Several.is c.as_slice-part-items.ensures c.loop-part-test.true c.part-item.is (sym c.has_bad_threshold.ensures
    ∙ c.if-has_bad_threshold.true)

pub returns-after-loop-part : goal.returns-after-loop-part
returns-after-loop-part t c =
    c.is_bad_rule.ensures ∙ ap (is_bad_rule c.in-Several.rule) c.len.ensures
    ∙ threshold_over c.args.written.now c.in-Several.rule c.in-Several.parts c.as_slice-part-items.result.now
    c.loop-part.part-index
    c.in-Several.is c.as_slice-part-items.ensures c.loop-part-test.false c.loop-part.invariant
