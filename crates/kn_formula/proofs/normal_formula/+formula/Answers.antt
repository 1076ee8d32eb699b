use Rattle.std.proofs.Common.{ap, ◌∙◌, ◌++◌, ◌∷◌, [], List, map, take}
use Rattle.kn_trees.specs.declared.formula.Formula.{Formula}
use Rattle.kn_formula.specs.Trees.{has_bad_name, formula_of}
use Rattle.kn_formula.proofs.TreeLemmas.{who_fault, who_formula_is, part_fault, parts_formula, none_more, formulas_more}
use Rattle.kn_formula.proofs.normal_formula.+formula.Goals as goal

pub returns-in-Err : goal.returns-in-Err
returns-in-Err t c = who_fault c.args.constants.now c.args.written.now c.in-Who.principal c.in-Err.fault c.in-Who.is
    c.in-Err.ensures

pub returns-in-Ok : goal.returns-in-Ok
returns-in-Ok t c = who_formula_is c.args.constants.now c.args.written.now c.in-Who.principal c.in-Ok.form c.in-Who.is
    c.in-Ok.ensures

pub returns-in-Err-formula : goal.returns-in-Err-formula
returns-in-Err-formula t c =
    part_fault c.args.constants.now c.args.written.now c.in-Several.rule c.in-Several.parts
    c.as_slice-part-items.result.now c.loop-part.part-index c.part-item.result c.in-Err-formula.fault
    c.in-Several.is c.as_slice-part-items.ensures c.loop-part-test.true c.part-item.is c.in-Err-formula.ensures

pub returns-after-loop-part : goal.returns-after-loop-part
returns-after-loop-part t c =
    parts_formula c.args.constants.now c.args.written.now c.in-Several.rule c.in-Several.parts
    c.as_slice-part-items.result.now c.loop-part.part-index c.loop-part.list c.formula_by_rule.result
    c.in-Several.is c.as_slice-part-items.ensures c.loop-part-test.false c.loop-part.invariant.formulas
    c.loop-part.invariant.named c.formula_by_rule.ensures

pub loop-part-preserved : goal.loop-part-preserved
loop-part-preserved t c =
    let items = c.as_slice-part-items.result.now in
    record {
      formulas = c.in-Ok-push.ensures.ok
          ∙ ap (λ (list : List Formula). list ++ c.in-Ok-formula.formula ∷ []) c.loop-part.invariant.formulas
          ∙ ap (λ (formula : Formula). map (formula_of c.args.constants.now) (take c.loop-part.part-index items)
          ++ formula ∷ []) c.in-Ok-formula.ensures.1
          ∙ formulas_more (formula_of c.args.constants.now) items c.loop-part.part-index c.part-item.result
          c.loop-part-test.true c.part-item.is;
      named = none_more (has_bad_name c.args.constants.now) items c.loop-part.part-index c.part-item.result
          c.loop-part-test.true c.part-item.is
          c.loop-part.invariant.named c.in-Ok-formula.ensures.0;
    }
