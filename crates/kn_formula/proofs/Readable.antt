-- A formula that a field states is one that a reader may give.
use Rattle.std.proofs.Common.{◌≡◌, ℕ, ◌≤◌, List, length, Option, Some, None, Result, Ok, Err, ap, sym, ◌∙◌, arith}
use Rattle.std.specs.Prelude.{IfOk, IfSome}
use Rattle.kn_env.specs.declared.constant.Constant.{Constant}
use Rattle.kn_lex.specs.Cutting.{TokenView}
use Rattle.kn_fields.specs.Fields.{between}
use Rattle.kn_fields.specs.Depth.{IsTooDeep}
use Rattle.kn_fields.proofs.Between.{between_length}
use Rattle.kn_fields.proofs.Words.{length_words}
use Rattle.kn_trees.specs.Formulas.{formula_nodes, formula_depth, is_sound, IsReadable}
use Rattle.kn_trees.specs.declared.formula.Formula.{Formula}
use Rattle.kn_formula.specs.Trees.{has_bad_threshold, formula_of}
use Rattle.kn_formula.specs.Grammar.{form_words, form_tree}
use Rattle.kn_formula.specs.Licensing.{IsFormula, licensees_of, Gives}
use Rattle.kn_formula.specs.declared.fault.FormulaFault.{FormulaFault}
use Rattle.kn_formula.proofs.Licenses.{formula_stands}
use Rattle.kn_formula.proofs.Sizes.{tree_nodes, tree_sound}
use Rattle.kn_formula.proofs.Nesting.{tree_depth}

pub stated_readable : (constants : List Constant) (tokens : List TokenView) (formula : Formula)
    → IsFormula constants tokens formula → (IsTooDeep tokens → ⊥) → IsReadable (length tokens) formula
stated_readable constants tokens formula is shallow =
    let form = is.spelled.form in
    let tree : formula ≡ formula_of constants (form_tree form) = sym is.means
    ∙ ap (formula_of constants) (sym is.spelled.tree) in
    let words : length (form_words form) ≡ length tokens = ap length is.spelled.words ∙ length_words tokens in
    record {
      sound = ap is_sound tree ∙ tree_sound constants form (ap has_bad_threshold is.spelled.tree ∙ is.thresholds);
      small = omega (arith, ap formula_nodes tree, tree_nodes constants form, words);
      shallow = omega (arith, ap formula_depth tree, tree_depth constants tokens form is.spelled.words shallow);
    }

-- so is what is given of a field among more tokens
pub given_readable : (constants : List Constant) (tokens : List TokenView) (from end : ℕ)
    (r : Result (Option Formula) FormulaFault) → from ≤ end → end ≤ length tokens
    → Gives r (licensees_of constants (between from end tokens)) → (IsTooDeep (between from end tokens) → ⊥)
    → IfOk r (λ licensees. IfSome licensees (λ formula. IsReadable (length tokens) formula))
given_readable constants tokens from end (Ok None) ordered within given shallow = tt
given_readable constants tokens from end (Ok (Some formula)) ordered within given shallow =
    let r = stated_readable constants (between from end tokens) formula
    (formula_stands constants (between from end tokens) (Some formula) given) shallow in
    record {
      sound = r.sound;
      small = omega (arith, r.small, between_length tokens from end ordered within);
      shallow =
          r.shallow;
    }
given_readable constants tokens from end (Err fault) ordered within given shallow = tt
