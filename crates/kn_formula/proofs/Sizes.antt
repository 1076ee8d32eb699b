-- A formula that tokens spell is sound, and has no more nodes than there are tokens.
use Rattle.std.proofs.Common.{rules, ◌≡◌, ℕ, suc, ◌+◌, ◌≤◌, Bool, true, false, ◌&&◌, ◌||◌, ◌==◌, nat_le, nat_lt, List}
use Rattle.std.proofs.Common.{[], ◌∷◌, length, map, codes, refl, sym, ap, ◌∙◌, arith, length-append}
use Rattle.std.specs.List.{list_all, list_any}
use Rattle.std.proofs.lemmas.Bool.{and_from}
use Rattle.std.proofs.lemmas.Bool.Decides.{nat_tests}
use Rattle.std.proofs.lemmas.List.{length-map}
use Rattle.kn_env.specs.declared.constant.Constant.{Constant}
use Rattle.kn_trees.specs.Formulas.{total, formula_nodes, is_sound}
use Rattle.kn_trees.specs.declared.formula.Formula.{Formula}
use Rattle.kn_trees.specs.declared.formula.Formula.TheVariants.{Who as who_formula}
use Rattle.kn_trees.specs.declared.formula.Formula.TheViews.{the_lemmas}
use Rattle.kn_trees.specs.declared.formula.Formula.TheFolds.{fold_out-Formula}
use Rattle.kn_fields.specs.Words.Word.{sign as sign_word}
use Rattle.kn_formula.specs.Trees.{joined, need_of, itself, is_bad_rule, has_bad_threshold, formula_by_rule, formula_of}
use Rattle.kn_formula.specs.Grammar.{Form, Both, One, Forms, form_words, both_words, one_words, forms_words, form_parts}
use Rattle.kn_formula.specs.Grammar.{both_parts, one_tree, forms_parts}
use Rattle.kn_formula.specs.Grammar.Form.{both, either}
use Rattle.kn_formula.specs.Grammar.Both.{one, each}
use Rattle.kn_formula.specs.Grammar.One.{group, literal, name, some_of}
use Rattle.kn_formula.specs.Grammar.Forms.{last, further}
use Rattle.kn_formula.specs.declared.written.Principal.{Principal}
use Rattle.kn_formula.specs.declared.written.Principal.TheVariants.{Literal, Name}
use Rattle.kn_formula.specs.declared.written.Rule.{Rule}
use Rattle.kn_formula.specs.declared.written.Rule.TheVariants.{All, Any, AtLeast}
use Rattle.kn_formula.specs.declared.written.Written.{Written}
use Rattle.kn_formula.specs.declared.written.Written.TheVariants.{Who, Several}
use Rattle.kn_formula.proofs.TreeLemmas.{bad_threshold_several, formula_who, formula_several}

nodes_who : (text : List ℕ) → formula_nodes (who_formula text) ≡ 1
unfolding formula_nodes
nodes_who text = search (rules, the_lemmas, fold_out-Formula)

nodes_ruled : (rule : Rule) (parts : List Formula)
    → formula_nodes (formula_by_rule rule parts) ≡ 1 + total (map formula_nodes parts)
unfolding formula_nodes
nodes_ruled All parts = search (rules, the_lemmas, fold_out-Formula)
nodes_ruled Any parts = search (rules, the_lemmas, fold_out-Formula)
nodes_ruled (AtLeast need) parts = search (rules, the_lemmas, fold_out-Formula)

-- the nodes of several formulas
abbrev parts_nodes : List Constant → List Written → ℕ
parts_nodes constants parts = total (map formula_nodes (map (formula_of constants) parts))

abbrev nodes : List Constant → Written → ℕ
nodes constants written = formula_nodes (formula_of constants written)

nodes_several : (constants : List Constant) (rule : Rule) (parts : List Written)
    → nodes constants (Several rule parts) ≡ 1 + parts_nodes constants parts
nodes_several constants rule parts = ap formula_nodes (formula_several constants rule parts)
    ∙ nodes_ruled rule (map (formula_of constants) parts)

nodes_principal : (constants : List Constant) (principal : Principal) → nodes constants (Who principal) ≡ 1
nodes_principal constants principal = ap formula_nodes (formula_who constants principal) ∙ nodes_who _

nodes_joined : (constants : List Constant) (rule : Rule) (parts : List Written) → 1 ≤ length parts
    → nodes constants (joined rule parts) + 1 ≤ parts_nodes constants parts + length parts
unfolding joined
nodes_joined constants rule [] some = absurd (omega arith)
nodes_joined constants rule (part ∷ []) some = omega arith
nodes_joined constants rule (part ∷ next ∷ parts) some = let whole =
    nodes_several constants rule (part ∷ next ∷ parts) in omega (arith, whole)

both_few : (b : Both) → 1 ≤ length (both_parts b)
unfolding both_parts
both_few (one o) = omega arith
both_few (each o b) = omega arith

form_few : (f : Form) → 1 ≤ length (form_parts f)
unfolding form_parts
form_few (both b) = omega arith
form_few (either b f) = omega arith

forms_few : (fs : Forms) → 1 ≤ length (forms_parts fs)
unfolding forms_parts
forms_few (last f) = omega arith
forms_few (further f fs) = omega arith

mutual
  unfolding form_words both_words one_words forms_words form_parts both_parts one_tree forms_parts

  form_nodes : (constants : List Constant) (f : Form) → parts_nodes constants (form_parts f) + length (form_parts f)
      ≤ length (form_words f) + 1
  form_nodes constants (both b) =
      omega (arith, nodes_joined constants All (both_parts b) (both_few b), both_nodes constants b)
  form_nodes constants (either b f) =
      omega (
        arith,
        nodes_joined constants All (both_parts b) (both_few b),
        both_nodes constants b,
        form_nodes constants f,
        length-append (both_words b) (sign_word (codes "||") ∷ form_words f),
      )

  both_nodes : (constants : List Constant) (b : Both) → parts_nodes constants (both_parts b) + length (both_parts b)
      ≤ length (both_words b) + 1
  both_nodes constants (one o) = omega (arith, one_nodes constants o)
  both_nodes constants (each o b) =
      omega (
        arith,
        one_nodes constants o,
        both_nodes constants b,
        length-append (one_words o) (sign_word (codes "&&") ∷ both_words b),
      )

  one_nodes : (constants : List Constant) (o : One) → nodes constants (one_tree o) ≤ length (one_words o)
  one_nodes constants (group f) =
      omega (
        arith,
        nodes_joined constants Any (form_parts f) (form_few f),
        form_nodes constants f,
        length-append (form_words f) (sign_word (codes ")") ∷ []),
      )
  one_nodes constants (literal value) = omega (arith, nodes_principal constants (Literal value))
  one_nodes constants (name text) = omega (arith, nodes_principal constants (Name text))
  one_nodes constants (some_of digits fs) =
      omega (
        arith,
        nodes_several constants (AtLeast (need_of digits)) (forms_parts fs),
        forms_nodes constants fs,
        forms_few fs,
        length-append (forms_words fs) (sign_word (codes ")") ∷ []),
      )

  forms_nodes : (constants : List Constant) (fs : Forms)
      → parts_nodes constants (forms_parts fs) + length (forms_parts fs) ≤ length (forms_words fs) + 1
  forms_nodes constants (last f) =
      omega (arith, nodes_joined constants Any (form_parts f) (form_few f), form_nodes constants f)
  forms_nodes constants (further f fs) =
      omega (
        arith,
        nodes_joined constants Any (form_parts f) (form_few f),
        form_nodes constants f,
        forms_nodes constants fs,
        length-append (form_words f) (sign_word (codes ",") ∷ forms_words fs),
      )

-- no more nodes than tokens
pub tree_nodes : (constants : List Constant) (f : Form)
    → formula_nodes (formula_of constants (joined Any (form_parts f))) ≤ length (form_words f)
tree_nodes constants f = omega (arith, nodes_joined constants Any (form_parts f) (form_few f), form_nodes constants f)

-- soundness

sound_who : (text : List ℕ) → is_sound (who_formula text) ≡ true
unfolding is_sound
sound_who text = search (rules, the_lemmas, fold_out-Formula)

-- whether a rule is sound over so many parts
abbrev rule_sound : Rule → ℕ → Bool
rule_sound All count = nat_le 2 count
rule_sound Any count = nat_le 2 count
rule_sound (AtLeast need) count = nat_le 1 need && nat_le need count

sound_ruled : (rule : Rule) (parts : List Formula)
    → is_sound (formula_by_rule rule parts)
    ≡ (rule_sound rule (length (map is_sound parts)) && list_all itself (map is_sound parts))
unfolding is_sound
sound_ruled All parts = search (rules, the_lemmas, fold_out-Formula)
sound_ruled Any parts = search (rules, the_lemmas, fold_out-Formula)
sound_ruled (AtLeast need) parts = search (rules, the_lemmas, fold_out-Formula)

abbrev sound : List Constant → Written → Bool
sound constants written = is_sound (formula_of constants written)

-- all of several formulas are sound
abbrev all_sound : List Constant → List Written → Bool
all_sound constants parts = list_all itself (map is_sound (map (formula_of constants) parts))

abbrev any_bad : List Written → Bool
any_bad parts = list_any itself (map has_bad_threshold parts)

sound_several : (constants : List Constant) (rule : Rule) (parts : List Written) → rule_sound rule (length parts) ≡ true
    → all_sound constants parts ≡ true → sound constants (Several rule parts) ≡ true
sound_several constants rule parts fits all =
    let size : length (map is_sound (map (formula_of constants) parts)) ≡ length parts = simp length-map in
    ap is_sound (formula_several constants rule parts)
    ∙ sound_ruled rule (map (formula_of constants) parts)
    ∙ and_from _ _ (ap (rule_sound rule) size ∙ fits) all

sound_joined : (constants : List Constant) (rule : Rule) (parts : List Written)
    → ((n : ℕ) → rule_sound rule (suc (suc n)) ≡ true) → 1 ≤ length parts → all_sound constants parts ≡ true
    → sound constants (joined rule parts) ≡ true
unfolding joined
sound_joined constants rule [] fits some all = absurd (omega arith)
sound_joined constants rule (part ∷ []) fits some all = first_true (sound constants part) true all
  where
    first_true : (a b : Bool) → (a && b) ≡ true → a ≡ true
    first_true true b e = refl
    first_true false b e = e
sound_joined constants rule (part ∷ next ∷ parts) fits some all =
    sound_several constants rule (part ∷ next ∷ parts) (fits (length parts)) all

or_false : (a b : Bool) → (a || b) ≡ false → (a ≡ false) × (b ≡ false)
or_false true b e = absurd (cc)
or_false false b e = (refl, e)

-- a list without a bad threshold
good_joined : (rule : Rule) (parts : List Written) → has_bad_threshold (joined rule parts) ≡ false
    → any_bad parts ≡ false
unfolding joined
good_joined rule [] e = refl
good_joined rule (part ∷ []) e = ap (λ b. b || false) e
good_joined rule (part ∷ next ∷ parts) e =
    (or_false (any_bad (part ∷ next ∷ parts)) (is_bad_rule rule (length (part ∷ next ∷ parts)))
    (sym (bad_threshold_several rule (part ∷ next ∷ parts)) ∙ e)).0

two_parts : (n : ℕ) → nat_le 2 (suc (suc n)) ≡ true
two_parts n = grind (arith, nat_tests)

need_sound : (need count : ℕ) → (need == 0 || nat_lt count need) ≡ false → (nat_le 1 need && nat_le need count) ≡ true
need_sound need count e = grind (arith, nat_tests)

-- a list without a bad threshold is sound where its parts are
good_sound : (constants : List Constant) (rule : Rule) (parts : List Written)
    → ((n : ℕ) → rule_sound rule (suc (suc n)) ≡ true) → 1 ≤ length parts
    → has_bad_threshold (joined rule parts) ≡ false
    → (any_bad parts ≡ false → all_sound constants parts ≡ true) → sound constants (joined rule parts) ≡ true
good_sound constants rule parts fits some good all =
    sound_joined constants rule parts fits some (all (good_joined rule parts good))

mutual
  unfolding form_parts both_parts one_tree forms_parts

  form_sound : (constants : List Constant) (f : Form) → any_bad (form_parts f) ≡ false
      → all_sound constants (form_parts f) ≡ true
  form_sound constants (both b) e =
      rw (good_sound constants All (both_parts b) two_parts (both_few b) (or_false _ false e).0
      (both_sound constants b)) refl
  form_sound constants (either b f) e =
      let good = or_false (has_bad_threshold (joined All (both_parts b))) (any_bad (form_parts f)) e in
      rw (good_sound constants All (both_parts b) two_parts (both_few b) good.0 (both_sound constants b))
      (form_sound constants f good.1)

  both_sound : (constants : List Constant) (b : Both) → any_bad (both_parts b) ≡ false
      → all_sound constants (both_parts b) ≡ true
  both_sound constants (one o) e = rw (one_sound constants o (or_false _ false e).0) refl
  both_sound constants (each o b) e =
      let good = or_false (has_bad_threshold (one_tree o)) (any_bad (both_parts b)) e in
      rw (one_sound constants o good.0) (both_sound constants b good.1)

  one_sound : (constants : List Constant) (o : One) → has_bad_threshold (one_tree o) ≡ false
      → sound constants (one_tree o) ≡ true
  one_sound constants (group f) e =
      good_sound constants Any (form_parts f) two_parts (form_few f) e (form_sound constants f)
  one_sound constants (literal value) e = ap is_sound (formula_who constants (Literal value)) ∙ sound_who _
  one_sound constants (name text) e = ap is_sound (formula_who constants (Name text)) ∙ sound_who _
  one_sound constants (some_of digits fs) e =
      let rule : Rule = AtLeast (need_of digits) in
      let good = or_false (any_bad (forms_parts fs)) (is_bad_rule rule (length (forms_parts fs)))
      (sym (bad_threshold_several rule (forms_parts fs)) ∙ e) in
      sound_several constants rule (forms_parts fs) (need_sound (need_of digits) (length (forms_parts fs)) good.1)
      (forms_sound constants fs good.0)

  forms_sound : (constants : List Constant) (fs : Forms) → any_bad (forms_parts fs) ≡ false
      → all_sound constants (forms_parts fs) ≡ true
  forms_sound constants (last f) e =
      rw (good_sound constants Any (form_parts f) two_parts (form_few f) (or_false _ false e).0
      (form_sound constants f)) refl
  forms_sound constants (further f fs) e =
      let good = or_false (has_bad_threshold (joined Any (form_parts f))) (any_bad (forms_parts fs)) e in
      rw (good_sound constants Any (form_parts f) two_parts (form_few f) good.0 (form_sound constants f))
      (forms_sound constants fs good.1)

-- a formula without a bad threshold is sound
pub tree_sound : (constants : List Constant) (f : Form) → has_bad_threshold (joined Any (form_parts f)) ≡ false
    → is_sound (formula_of constants (joined Any (form_parts f))) ≡ true
tree_sound constants f e = good_sound constants Any (form_parts f) two_parts (form_few f) e (form_sound constants f)
