-- A formula that tokens spell is no deeper than their brackets allow.
use Rattle.std.proofs.Common.{rules, ◌≡◌, ℕ, ◌+◌, ◌*◌, ◌≤◌, List, [], ◌∷◌, ◌++◌, map, codes, refl, sym, ap, subst, ◌∙◌}
use Rattle.std.proofs.Common.{arith}
use Rattle.kn_env.specs.declared.constant.Constant.{Constant}
use Rattle.kn_lex.specs.Cutting.{TokenView}
use Rattle.kn_fields.specs.Depth.{IsTooDeep}
use Rattle.kn_fields.specs.Words.{Word, words_of}
use Rattle.kn_fields.specs.Words.Word.{name as name_word, number as number_word, sign as sign_word}
use Rattle.kn_fields.proofs.Nesting.{Fits, after, Closes, closes_between, closes_group, shallow_fits, fits_here}
use Rattle.kn_fields.proofs.Nesting.{fits_front, fits_between, fits_group}
use Rattle.kn_trees.specs.Formulas.{greatest_of, formula_depth}
use Rattle.kn_trees.specs.declared.formula.Formula.{Formula}
use Rattle.kn_trees.specs.declared.formula.Formula.TheVariants.{Who as who_formula}
use Rattle.kn_trees.specs.declared.formula.Formula.TheViews.{the_lemmas}
use Rattle.kn_trees.specs.declared.formula.Formula.TheFolds.{fold_out-Formula}
use Rattle.kn_formula.specs.Trees.{joined, need_of, formula_by_rule, formula_of}
use Rattle.kn_formula.specs.Grammar.{Form, Both, One, Forms, form_words, both_words, one_words, forms_words, form_parts}
use Rattle.kn_formula.specs.Grammar.{both_parts, one_tree, forms_parts}
use Rattle.kn_formula.specs.Grammar.Form.{both, either}
use Rattle.kn_formula.specs.Grammar.Both.{one, each}
use Rattle.kn_formula.specs.Grammar.One.{group, literal, name, some_of}
use Rattle.kn_formula.specs.Grammar.Forms.{last, further}
use Rattle.kn_formula.specs.declared.written.Principal.{Principal}
use Rattle.kn_formula.specs.declared.written.Principal.TheVariants.{Literal, Name}
use Rattle.kn_formula.specs.declared.written.Rule.{Rule}
use Rattle.kn_formula.specs.declared.written.Rule.TheVariants.{All, Any, AtLeast}
use Rattle.kn_formula.specs.declared.written.Written.{Written}
use Rattle.kn_formula.specs.declared.written.Written.TheVariants.{Who, Several}
use Rattle.kn_formula.proofs.TreeLemmas.{formula_who, formula_several}

mutual
  unfolding after form_words both_words one_words forms_words

  form_closes : (f : Form) → Closes (form_words f)
  form_closes (both b) = both_closes b
  form_closes (either b f) =
      closes_between (both_words b) (form_words f) (sign_word (codes "||")) (both_closes b) (λ depth. refl)
      (form_closes f)

  both_closes : (b : Both) → Closes (both_words b)
  both_closes (one o) = one_closes o
  both_closes (each o b) =
      closes_between (one_words o) (both_words b) (sign_word (codes "&&")) (one_closes o) (λ depth. refl)
      (both_closes b)

  one_closes : (o : One) → Closes (one_words o)
  one_closes (group f) depth = closes_group depth (form_words f) (sign_word (codes ")")) (form_closes f) (omega arith)
  one_closes (literal value) depth = refl
  one_closes (name text) depth = refl
  one_closes (some_of digits fs) depth =
      closes_group depth (forms_words fs) (sign_word (codes ")")) (forms_closes fs) (omega arith)

  forms_closes : (fs : Forms) → Closes (forms_words fs)
  forms_closes (last f) = form_closes f
  forms_closes (further f fs) =
      closes_between (form_words f) (forms_words fs) (sign_word (codes ",")) (form_closes f) (λ depth. refl)
      (forms_closes fs)

-- behind `-`, `of` and `(` one bracket more is open
fits_list : (depth run : ℕ) (digits : List ℕ) (inner : List Word)
    → Fits depth run (number_word digits ∷ sign_word (codes "-") ∷ name_word (codes "of") ∷ sign_word (codes "(")
    ∷ inner ++ sign_word (codes ")") ∷ []) → Fits (depth + 1) 0 inner
unfolding Fits
fits_list depth run digits inner fits = fits_group depth 0 inner fits.2.2.2

-- the levels of a formula by the brackets

depth_who : (text : List ℕ) → formula_depth (who_formula text) ≡ 1
unfolding formula_depth
depth_who text = search (rules, the_lemmas, fold_out-Formula)

depth_ruled : (rule : Rule) (parts : List Formula)
    → formula_depth (formula_by_rule rule parts) ≡ 1 + greatest_of (map formula_depth parts)
unfolding formula_depth
depth_ruled All parts = search (rules, the_lemmas, fold_out-Formula)
depth_ruled Any parts = search (rules, the_lemmas, fold_out-Formula)
depth_ruled (AtLeast need) parts = search (rules, the_lemmas, fold_out-Formula)

abbrev depth : List Constant → Written → ℕ
depth constants written = formula_depth (formula_of constants written)

abbrev parts_depth : List Constant → List Written → ℕ
parts_depth constants parts = greatest_of (map formula_depth (map (formula_of constants) parts))

depth_principal : (constants : List Constant) (principal : Principal) → depth constants (Who principal) ≡ 1
depth_principal constants principal = ap formula_depth (formula_who constants principal) ∙ depth_who _

depth_several : (constants : List Constant) (rule : Rule) (parts : List Written)
    → depth constants (Several rule parts) ≡ 1 + parts_depth constants parts
depth_several constants rule parts = ap formula_depth (formula_several constants rule parts)
    ∙ depth_ruled rule (map (formula_of constants) parts)

depth_joined : (constants : List Constant) (rule : Rule) (parts : List Written)
    → depth constants (joined rule parts) ≤ 1 + parts_depth constants parts
unfolding joined
depth_joined constants rule [] = omega (arith, depth_several constants rule [])
depth_joined constants rule (part ∷ []) = omega arith
depth_joined constants rule (part ∷ next ∷ parts) = omega (arith, depth_several constants rule (part ∷ next ∷ parts))

-- three levels for each bracket that is many, and for what stands in the innermost
mutual
  unfolding form_words both_words one_words forms_words form_parts both_parts one_tree forms_parts

  form_levels : (constants : List Constant) (many run : ℕ) (f : Form) → Fits many run (form_words f)
      → parts_depth constants (form_parts f) + 3 * many ≤ 194
  form_levels constants many run (both b) fits =
      omega (arith, depth_joined constants All (both_parts b), both_levels constants many run b fits)
  form_levels constants many run (either b f) fits =
      omega (
        arith,
        depth_joined constants All (both_parts b),
        both_levels constants many run b
            (fits_front many run (both_words b) (sign_word (codes "||") ∷ form_words f) fits),
        form_levels constants many 0 f
            (fits_between many run (both_words b) (form_words f) (sign_word (codes "||")) (both_closes b)
            (λ depth. refl) fits),
      )

  both_levels : (constants : List Constant) (many run : ℕ) (b : Both) → Fits many run (both_words b)
      → parts_depth constants (both_parts b) + 3 * many ≤ 193
  both_levels constants many run (one o) fits = omega (arith, one_levels constants many run o fits)
  both_levels constants many run (each o b) fits =
      omega (
        arith,
        one_levels constants many run o
            (fits_front many run (one_words o) (sign_word (codes "&&") ∷ both_words b) fits),
        both_levels constants many 0 b
            (fits_between many run (one_words o) (both_words b) (sign_word (codes "&&")) (one_closes o) (λ depth. refl)
            fits),
      )

  one_levels : (constants : List Constant) (many run : ℕ) (o : One) → Fits many run (one_words o)
      → depth constants (one_tree o) + 3 * many ≤ 193
  one_levels constants many run (group f) fits =
      omega (
        arith,
        depth_joined constants Any (form_parts f),
        form_levels constants (many + 1) 0 f (fits_group many run (form_words f) fits),
      )
  one_levels constants many run (literal value) fits =
      omega (arith, depth_principal constants (Literal value), (fits_here many run (one_words (literal value)) fits).0)
  one_levels constants many run (name text) fits =
      omega (arith, depth_principal constants (Name text), (fits_here many run (one_words (name text)) fits).0)
  one_levels constants many run (some_of digits fs) fits =
      omega (
        arith,
        depth_several constants (AtLeast (need_of digits)) (forms_parts fs),
        forms_levels constants (many + 1) 0 fs (fits_list many run digits (forms_words fs) fits),
      )

  forms_levels : (constants : List Constant) (many run : ℕ) (fs : Forms) → Fits many run (forms_words fs)
      → parts_depth constants (forms_parts fs) + 3 * many ≤ 195
  forms_levels constants many run (last f) fits =
      omega (arith, depth_joined constants Any (form_parts f), form_levels constants many run f fits)
  forms_levels constants many run (further f fs) fits =
      omega (
        arith,
        depth_joined constants Any (form_parts f),
        form_levels constants many run f
            (fits_front many run (form_words f) (sign_word (codes ",") ∷ forms_words fs) fits),
        forms_levels constants many 0 fs
            (fits_between many run (form_words f) (forms_words fs) (sign_word (codes ",")) (form_closes f)
            (λ depth. refl) fits),
      )

-- at most 195 levels
pub tree_depth : (constants : List Constant) (tokens : List TokenView) (f : Form) → form_words f ≡ words_of tokens
    → (IsTooDeep tokens → ⊥)
    → formula_depth (formula_of constants (joined Any (form_parts f))) ≤ 195
tree_depth constants tokens f spelled shallow =
    omega (
      arith,
      depth_joined constants Any (form_parts f),
      form_levels constants 0 0 f (subst (Fits 0 0) (sym spelled) (shallow_fits tokens shallow)),
    )
