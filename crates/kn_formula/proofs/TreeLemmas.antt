-- The folds over formulas as they are written by their variants, and along the parts of a list.
use Rattle.std.proofs.Common.{rules, ◌≡◌, ℕ, zero, suc, ◌+◌, ◌<◌, ◌≤◌, Bool, true, false, ◌||◌, ◌==◌, nat_lt, List, []}
use Rattle.std.proofs.Common.{◌∷◌, ◌++◌, length, map, take, get_or, Option, Some, Ok, Err, take_all, refl, sym, ap, ◌∙◌}
use Rattle.std.proofs.Common.{arith, lt-ltb}
use Rattle.std.specs.List.{list_any}
use Rattle.std.proofs.lemmas.Bool.{or_from}
use Rattle.std.proofs.lemmas.List.{map-append, length-map, take_more}
use Rattle.kn_env.specs.declared.constant.Constant.{Constant}
use Rattle.kn_trees.specs.declared.formula.Formula.{Formula}
use Rattle.kn_trees.specs.declared.formula.Formula.TheVariants.{Who as who_formula}
use Rattle.kn_formula.specs.Trees.{itself, is_bad_rule, has_bad_threshold, principal_text, is_bad_text, normal_text}
use Rattle.kn_formula.specs.Trees.{has_bad_name, formula_by_rule, formula_of}
use Rattle.kn_formula.specs.Naming.{NamesText, Names}
use Rattle.kn_formula.specs.declared.fault.FormulaFault.{FormulaFault}
use Rattle.kn_formula.specs.declared.fault.FormulaFault.TheVariants.{Name, NoMemory}
use Rattle.kn_formula.specs.declared.written.Principal.{Principal}
use Rattle.kn_formula.specs.declared.written.Rule.{Rule}
use Rattle.kn_formula.specs.declared.written.Written.{Written}
use Rattle.kn_formula.specs.declared.written.Written.TheVariants.{Who, Several}
use Rattle.kn_formula.specs.declared.written.Written.TheViews.{the_lemmas}
use Rattle.kn_formula.specs.declared.written.Written.TheFolds.{fold_out-Written}

pub bad_threshold_who : (principal : Principal) → has_bad_threshold (Who principal) ≡ false
unfolding has_bad_threshold
bad_threshold_who principal = search (rules, the_lemmas, fold_out-Written)

bad_threshold_parts : (rule : Rule) (parts : List Written)
    → has_bad_threshold (Several rule parts)
    ≡ (list_any itself (map has_bad_threshold parts) || is_bad_rule rule (length (map has_bad_threshold parts)))
unfolding has_bad_threshold
bad_threshold_parts rule parts = search (rules, the_lemmas, fold_out-Written)

pub bad_threshold_several : (rule : Rule) (parts : List Written)
    → has_bad_threshold (Several rule parts)
    ≡ (list_any itself (map has_bad_threshold parts) || is_bad_rule rule (length parts))
bad_threshold_several rule parts =
    bad_threshold_parts rule parts
    ∙ ap (λ n. list_any itself (map has_bad_threshold parts) || is_bad_rule rule n) (simp length-map)

pub bad_name_who : (constants : List Constant) (principal : Principal)
    → has_bad_name constants (Who principal) ≡ is_bad_text (principal_text constants principal)
unfolding has_bad_name
bad_name_who constants principal = search (rules, the_lemmas, fold_out-Written)

pub bad_name_several : (constants : List Constant) (rule : Rule) (parts : List Written)
    → has_bad_name constants (Several rule parts) ≡ list_any itself (map (has_bad_name constants) parts)
unfolding has_bad_name
bad_name_several constants rule parts = search (rules, the_lemmas, fold_out-Written)

pub formula_who : (constants : List Constant) (principal : Principal)
    → formula_of constants (Who principal) ≡ who_formula (normal_text (principal_text constants principal))
unfolding formula_of
formula_who constants principal = search (rules, the_lemmas, fold_out-Written)

pub formula_several : (constants : List Constant) (rule : Rule) (parts : List Written)
    → formula_of constants (Several rule parts) ≡ formula_by_rule rule (map (formula_of constants) parts)
unfolding formula_of
formula_several constants rule parts = search (rules, the_lemmas, fold_out-Written)

any_join : (xs : List Bool) (x : Bool) → list_any itself xs ≡ false → x ≡ false → list_any itself (xs ++ x ∷ []) ≡ false
any_join [] x none is = or_from x false is refl
any_join (true ∷ xs) x none is = absurd (cc)
any_join (false ∷ xs) x none is = any_join xs x none is

-- one part more passes
pub none_more : (f : Written → Bool) (parts : List Written) (i : ℕ) (part : Written) → i < length parts
    → part ≡ get_or parts i part
    → list_any itself (map f (take i parts)) ≡ false → f part ≡ false
    → list_any itself (map f (take (i + 1) parts)) ≡ false
none_more f parts i part within is none passes =
    ap (λ parts. list_any itself (map f parts)) (take_more parts i part within
    ∙ ap (λ x. take i parts ++ x ∷ []) (sym is))
    ∙ ap (list_any itself) (map-append f (take i parts) (part ∷ []))
    ∙ any_join (map f (take i parts)) (f part) none passes

any_true : (b : Bool) (rest : Bool) → rest ≡ true → (b || rest) ≡ true
any_true true rest e = refl
any_true false rest e = e

-- one part doesn't
pub some_here : (f : Written → Bool) (parts : List Written) (i : ℕ) (part : Written) → i < length parts
    → part ≡ get_or parts i part → f part ≡ true → list_any itself (map f parts) ≡ true
some_here f [] i part within is bad = absurd (omega arith)
some_here f (first ∷ parts) zero part within is bad = ap (λ b. b || list_any itself (map f parts)) (sym (ap f is) ∙ bad)
some_here f (first ∷ parts) (suc i) part within is bad =
    any_true (f first) (list_any itself (map f parts)) (some_here f parts i part (omega arith) is bad)

-- one part's formula more
pub formulas_more : (f : Written → Formula) (parts : List Written) (i : ℕ) (part : Written) → i < length parts
    → part ≡ get_or parts i part
    → map f (take i parts) ++ f part ∷ [] ≡ map f (take (i + 1) parts)
formulas_more f parts i part within is =
    sym (map-append f (take i parts) (part ∷ []))
    ∙ ap (map f) (ap (λ x. take i parts ++ x ∷ []) is ∙ sym (take_more parts i part within))

-- a part has a bad threshold
pub threshold_found : (written : Written) (rule : Rule) (parts items : List Written) (i : ℕ) (part : Written)
    → written ≡ Several rule parts → items ≡ parts
    → i < length items → part ≡ get_or items i part → has_bad_threshold part ≡ true → true ≡ has_bad_threshold written
threshold_found written rule parts items i part is seen within at bad =
    rw (is, bad_threshold_several rule parts, ← seen, some_here has_bad_threshold items i part within at bad) refl

-- no part has
pub threshold_over : (written : Written) (rule : Rule) (parts items : List Written) (i : ℕ)
    → written ≡ Several rule parts → items ≡ parts
    → length items ≤ i → list_any itself (map has_bad_threshold (take i items)) ≡ false
    → is_bad_rule rule (length parts) ≡ has_bad_threshold written
threshold_over written rule parts items i is seen past none =
    let none_of : list_any itself (map has_bad_threshold items) ≡ false = rw (take_all i items past) at none in
    rw (is, bad_threshold_several rule parts, ← seen, none_of) refl

-- the fault of a principal is that of the formula which it is
pub who_fault : (constants : List Constant) (written : Written) (principal : Principal) (fault : FormulaFault)
    → written ≡ Who principal
    → NamesText (principal_text constants principal) (Err fault) → Names constants written (Err fault)
who_fault constants written principal Name is h = rw (is, bad_name_who constants principal) h
who_fault constants written principal NoMemory is h = tt
who_fault constants written principal _ is h = absurd h

pub who_formula_is : (constants : List Constant) (written : Written) (principal : Principal) (form : List ℕ)
    → written ≡ Who principal
    → NamesText (principal_text constants principal) (Ok form) → Names constants written (Ok (who_formula form))
who_formula_is constants written principal form is h = rw is (
  bad_name_who constants principal ∙ h.0,
  ap who_formula h.1
      ∙ sym (formula_who constants principal),
)

-- the fault of a part is that of the formula
pub part_fault : (constants : List Constant) (written : Written) (rule : Rule) (parts items : List Written) (i : ℕ)
    (part : Written) (fault : FormulaFault)
    → written ≡ Several rule parts → items ≡ parts → i < length items → part ≡ get_or items i part
    → Names constants part (Err fault) → Names constants written (Err fault)
part_fault constants written rule parts items i part Name is seen within at h =
    rw (is, bad_name_several constants rule parts, ← seen) (some_here (has_bad_name constants) items i part within at h)
part_fault constants written rule parts items i part NoMemory is seen within at h = tt
part_fault constants written rule parts items i part _ is seen within at h = absurd h

-- all parts have formulas
pub parts_formula : (constants : List Constant) (written : Written) (rule : Rule) (parts items : List Written) (i : ℕ)
    (list : List Formula) (formula : Formula)
    → written ≡ Several rule parts → items ≡ parts → length items ≤ i → list ≡ map (formula_of constants) (take i items)
    → list_any itself (map (has_bad_name constants) (take i items)) ≡ false → formula ≡ formula_by_rule rule list
    → Names constants written (Ok formula)
parts_formula constants written rule parts items i list formula is seen past formulas none ruled_is =
    let all : take i items ≡ parts = take_all i items past ∙ seen in
    rw is (
      bad_name_several constants rule parts ∙ rw all at none,
      ruled_is ∙ ap (formula_by_rule rule) (rw all at formulas)
          ∙ sym (formula_several constants rule parts),
    )

-- a text of more than 4,096 bytes
pub long_text : (text : List ℕ) (found : Option (List ℕ)) → Some text ≡ found → 4096 < length text
    → is_bad_text found ≡ true
long_text text found is long = sym (ap is_bad_text is)
    ∙ any_true (length text == 0) (nat_lt 4096 (length text)) (lt-ltb _ _ long)
