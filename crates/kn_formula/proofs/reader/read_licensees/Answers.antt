use Rattle.std.proofs.Common.{List, Ok, Err, sym, subst, ◌∙◌}
use Rattle.kn_env.specs.declared.constant.Constant.{Constant}
use Rattle.kn_formula.specs.Naming.{Names}
use Rattle.kn_formula.proofs.Judged.{nothing_given, judged_by, grammar_fault_given, threshold_given, formula_given}
use Rattle.kn_formula.proofs.Judged.{fault_given}
use Rattle.kn_formula.proofs.reader.read_licensees.Goals as goal

pub returns-then-len-eq0 : goal.returns-then-len-eq0
returns-then-len-eq0 c = nothing_given c.args.constants.now _ _ c.of_field-cursor.ensures (sym c.len.ensures
    ∙ c.if-len-eq0.true)

pub returns-in-Err : goal.returns-in-Err
returns-in-Err c =
    grammar_fault_given c.args.constants.now _ _ c.in-Err.grammar_fault c.from.result
    (judged_by c.args.constants.now _ _ c.of_field-cursor.ensures
    (λ none. c.if-len-eq0.false (c.len.ensures ∙ none)))
    c.in-Err.ensures c.from.ensures

pub returns-then-has_bad_threshold : goal.returns-then-has_bad_threshold
returns-then-has_bad_threshold c =
    threshold_given c.args.constants.now _ _ c.in-Ok.written
    (judged_by c.args.constants.now _ _ c.of_field-cursor.ensures
    (λ none. c.if-len-eq0.false (c.len.ensures ∙ none)))
    c.in-Ok.ensures (sym c.has_bad_threshold.ensures ∙ c.if-has_bad_threshold.true)

pub returns-in-Ok-formula : goal.returns-in-Ok-formula
returns-in-Ok-formula c =
    formula_given c.args.constants.now _ _ c.in-Ok.written c.in-Ok-formula.formula
    (judged_by c.args.constants.now _ _ c.of_field-cursor.ensures
    (λ none. c.if-len-eq0.false (c.len.ensures ∙ none)))
    c.in-Ok.ensures (sym c.has_bad_threshold.ensures ∙ c.if-has_bad_threshold.false)
    (subst (λ (constants : List Constant). Names constants c.in-Ok.written (Ok c.in-Ok-formula.formula))
    c.as_slice.ensures c.in-Ok-formula.ensures)

pub returns : goal.returns
returns c =
    fault_given c.args.constants.now _ _ c.in-Ok.written c.in-Err-formula.fault
    (judged_by c.args.constants.now _ _ c.of_field-cursor.ensures
    (λ none. c.if-len-eq0.false (c.len.ensures ∙ none)))
    c.in-Ok.ensures (sym c.has_bad_threshold.ensures ∙ c.if-has_bad_threshold.false)
    (subst (λ (constants : List Constant). Names constants c.in-Ok.written (Err c.in-Err-formula.fault))
    c.as_slice.ensures c.in-Err-formula.ensures)
