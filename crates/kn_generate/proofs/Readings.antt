-- That the generated texts read.
use Rattle.std.proofs.Common.{◌≡◌, ℕ, true, false, Bool, ◌+◌, ◌≤◌, ◌==◌, ◌||◌, if◌then◌else◌, List, [], ◌∷◌, Option}
use Rattle.std.proofs.Common.{Some, None, Result, Ok, Err, length, refl, ◌∙◌, codes}
use Rattle.std.specs.List.{list_all}
use Rattle.std.specs.Prelude.{pos, map, nat_lt, is_ok, is_some, IsSome, ok_or}
use Rattle.std.specs.Option.{option_map_or}
use Rattle.std.specs.Result.{result_ok}
use Rattle.kn_lex.specs.Cutting.{TokenView, start}
use Rattle.kn_lex.specs.Literal.{literal_value}
use Rattle.kn_lex.specs.Computed.{tokens_or_fault}
use Rattle.kn_fields.specs.Fields.{field_of, fields_of, field_with}
use Rattle.kn_fields.specs.Faults.{constants_in}
use Rattle.kn_fields.specs.Scanning.{fault_in, first_place, fault_at, fault_without, version_place, constant_place}
use Rattle.kn_fields.specs.Scanning.{departure, goes_deep}
use Rattle.kn_fields.specs.Depth.{depth_behind, run_behind}
use Rattle.kn_fields.specs.Words as L
use Rattle.kn_fields.specs.Words.{itself}
use Rattle.kn_fields.specs.Reading.{tail_at, list_at, taken, named}
use Rattle.kn_fields.specs.Computed.{fields_or_fault}
use Rattle.kn_principal.specs.Principals.{normal_form}
use Rattle.kn_trees.specs.declared.program.Program.{Program}
use Rattle.kn_trees.specs.declared.assertion.Assertion.{Assertion}
use Rattle.kn_trees.specs.Kinds.{kind_of, is_well_kinded, is_clause_well_kinded, is_then_well_kinded, then_step}
use Rattle.kn_trees.specs.Kinds.{clause_step, program_step}
use Rattle.kn_trees.specs.declared.kinds.Kind.TheVariants as K
use Rattle.kn_trees.specs.declared.program.Expr.{Expr}
use Rattle.kn_trees.specs.declared.program.Expr.TheVariants as E
use Rattle.kn_trees.specs.declared.program.Comparison.TheVariants.{Gt}
use Rattle.kn_trees.specs.declared.program.Clause.{Clause}
use Rattle.kn_trees.specs.declared.program.Then.TheVariants.{Value}
use Rattle.kn_trees.specs.declared.program.Then.TheFolds.{fold-roll-Program}
use Rattle.kn_trees.proofs.ExprKindLaws.{kind_of-Truth, kind_of-Whole, kind_of-Text, kind_of-Name, kind_of-Number}
use Rattle.kn_trees.proofs.ExprKindLaws.{kind_of-Compare, is_then_well_kinded-Value, is_clause_well_kinded-parts}
use Rattle.kn_program.specs.Grammar.{program_with, Sum, Unary, Or, program_words as form_words, entry_words}
use Rattle.kn_program.specs.Grammar.{clause_words, or_words, and_words, not_words, cmp_words, sum_words, product_words}
use Rattle.kn_program.specs.Grammar.{power_words, unary_words, atom_words, program_clauses, entry_clauses, clause_tree}
use Rattle.kn_program.specs.Grammar.{or_parts, and_parts, not_tree, cmp_tree, sum_first, sum_links, product_first}
use Rattle.kn_program.specs.Grammar.{product_links, power_first, power_links, unary_tree, atom_tree}
use Rattle.kn_program.specs.Grammar.Or.{ands}
use Rattle.kn_program.specs.Grammar.And.{nots}
use Rattle.kn_program.specs.Grammar.Not.{cmp}
use Rattle.kn_program.specs.Grammar.Cmp.{sum, compared}
use Rattle.kn_program.specs.Grammar.Sum.{product}
use Rattle.kn_program.specs.Grammar.Product.{power}
use Rattle.kn_program.specs.Grammar.Power.{unary}
use Rattle.kn_program.specs.Grammar.Unary.{atom, signed}
use Rattle.kn_program.specs.Grammar.Atom.{literal as literal_atom, number as number_atom, truth as truth_atom}
use Rattle.kn_program.specs.Grammar.Atom.{name as name_atom}
use Rattle.kn_program.specs.Grammar.Program.{ends, goes_on}
use Rattle.kn_program.specs.Grammar.Entry.{nothing, something}
use Rattle.kn_program.specs.Grammar.Clause.{valued}
use Rattle.kn_formula.specs.Trees.{joined, need_of, has_bad_threshold, has_bad_name}
use Rattle.kn_formula.specs.declared.written.Principal.TheVariants.{Literal}
use Rattle.kn_formula.specs.declared.written.Rule.TheVariants.{Any, AtLeast}
use Rattle.kn_formula.specs.declared.written.Written.{Written}
use Rattle.kn_formula.specs.declared.written.Written.TheVariants.{Who, Several}
use Rattle.kn_formula.proofs.TreeLemmas.{bad_threshold_who, bad_threshold_several, bad_name_who, bad_name_several}
use Rattle.kn_formula.specs.Reading.{read_words, parts_at, one_at}
use Rattle.kn_formula.specs.Licensing as licensing
use Rattle.kn_formula.specs.Licensing.{licensees_of}
use Rattle.kn_program.specs.Signs.{truth_of, number_of}
use Rattle.kn_program.specs.Trees as trees
use Rattle.kn_program.specs.Reading.{read_program}
use Rattle.kn_program.specs.declared.signs.Prefix.TheVariants.{Number}
use Rattle.kn_program.proofs.Stated.{form_read}
use Rattle.kn_program.specs.Conditions as conditions
use Rattle.kn_program.specs.Conditions.{program_of}
use Rattle.kn_assert.specs.Parts.{principal_of, authorizer_of, licensees_by, conditions_by}
use Rattle.kn_assert.specs.Reading.{authorizer_in, licensees_in, conditions_in, and_then, stated_by, reading_with}
use Rattle.kn_assert.specs.Reading.{reading_of, assertion_of}
use Rattle.kn_fields.specs.declared.fault.ReadFault.{ReadFault}
use Rattle.kn_fields.specs.declared.fault.ReadFault.TheVariants.{Name as BadName}
use Rattle.kn_assert.specs.declared.stated.Stated.{Stated}
use Rattle.kn_generate.proofs.Scans.{bytes_of, tokens_at, AreCuts, text_tokens}
use Rattle.kn_generate.proofs.Literals.{quoted, IsNaming}
use Rattle.kn_generate.proofs.CutLemmas.{IsDigit, credential_cuts, policy_cuts, Cuts}

-- the tokens of the field of a number
abbrev pub of_field : ℕ → List TokenView → List TokenView
of_field number tokens = option_map_or (λ field. field.tokens) (field_with number tokens) []

-- a field that is read leaves what the others state
field_read : {X : Type 0} (r : Result X ReadFault) (make : X → Stated) (rest : Stated
    → Result Stated ReadFault) (last : Stated → Result Assertion ReadFault) → is_ok r ≡ true
    → ((x : X) → is_some (result_ok (and_then (rest (make x)) last)) ≡ true)
    → is_some (result_ok (and_then (and_then (and_then r (λ x. Ok (make x))) rest) last)) ≡ true
field_read (Ok x) make rest last e h = h x
field_read (Err fault) make rest last e h = cc

-- the fields of a short text whose tokens show no fault
pub fields_told : (text : List ℕ) (tokens : List TokenView) → nat_lt 16384 (length text) ≡ false
    → tokens_or_fault text ≡ Ok tokens → fault_in tokens ≡ None → fields_or_fault text ≡ Ok tokens
unfolding fields_or_fault
fields_told text tokens short cut none = rw (short, cut, none) refl

pub text_reads : (text : List ℕ) (tokens : List TokenView) → nat_lt 16384 (length text) ≡ false
    → tokens_or_fault text ≡ Ok tokens → fault_in tokens ≡ None
    → is_some (result_ok (reading_with text tokens)) ≡ true → IsSome (assertion_of text)
unfolding reading_of
text_reads text tokens short cut none reads = rw (fields_told text tokens short cut none) reads

named_ok : (b : Bool) (x : List ℕ) → b ≡ false → is_ok (ok_or (if b then None else Some x) (BadName 1)) ≡ true
named_ok b x e = rw e refl

-- the words of a formula, and what they spell
abbrev formula_words : List ℕ → List ℕ → List ℕ → List ℕ → List L.Word
formula_words va vb vc vd =
    L.literal va ∷ L.sign (codes "||") ∷ L.number (codes "2") ∷ L.sign (codes "-") ∷ L.name (codes "of")
    ∷ L.sign (codes "(")
    ∷ L.literal vb ∷ L.sign (codes ",") ∷ L.literal vc ∷ L.sign (codes ",") ∷ L.literal vd ∷ L.sign (codes ")") ∷ []

abbrev three : List ℕ → List ℕ → List ℕ → List Written
three vb vc vd = Who (Literal vb) ∷ Who (Literal vc) ∷ Who (Literal vd) ∷ []

abbrev written : List ℕ → List ℕ → List ℕ → List ℕ → Written
written va vb vc vd = Several Any (Who (Literal va) ∷ Several (AtLeast 2) (three vb vc vd) ∷ [])

words_spell : (va vb vc vd : List ℕ) → read_words (formula_words va vb vc vd) ≡ Some (written va vb vc vd)
unfolding read_words parts_at one_at list_at tail_at taken named itself joined need_of
words_spell va vb vc vd = refl

good_thresholds : (va vb vc vd : List ℕ) → has_bad_threshold (written va vb vc vd) ≡ false
good_thresholds va vb vc vd =
    bad_threshold_several Any (Who (Literal va) ∷ Several (AtLeast 2) (three vb vc vd) ∷ [])
    ∙ rw (
      bad_threshold_who (Literal va),
      bad_threshold_several (AtLeast 2) (three vb vc vd),
      bad_threshold_who (Literal vb),
      bad_threshold_who (Literal vc),
      bad_threshold_who (Literal vd),
    ) refl

abbrev is_bad : List ℕ → Bool
is_bad v = length v == 0 || nat_lt 4096 (length v)

good_names : (va vb vc vd : List ℕ) → is_bad va ≡ false → is_bad vb ≡ false → is_bad vc ≡ false → is_bad vd ≡ false
    → has_bad_name [] (written va vb vc vd) ≡ false
good_names va vb vc vd ea eb ec ed =
    bad_name_several [] Any (Who (Literal va) ∷ Several (AtLeast 2) (three vb vc vd) ∷ [])
    ∙ rw (
      bad_name_who [] (Literal va),
      bad_name_several [] (AtLeast 2) (three vb vc vd),
      bad_name_who [] (Literal vb),
      bad_name_who [] (Literal vc),
      bad_name_who [] (Literal vd),
      ea,
      eb,
      ec,
      ed,
    ) refl

formula_judged : (read : Option Written) (tree : Written) → read ≡ Some tree → has_bad_threshold tree ≡ false
    → has_bad_name [] tree ≡ false → is_ok (licensees_by (licensing.judged_read [] read)) ≡ true
formula_judged read tree e f g = rw (e, f, g) refl

formula_ok : (va vb vc vd : List ℕ) → is_bad va ≡ false → is_bad vb ≡ false → is_bad vc ≡ false → is_bad vd ≡ false
    → is_ok (licensees_by (licensing.judged_read [] (read_words (formula_words va vb vc vd)))) ≡ true
formula_ok va vb vc vd ea eb ec ed =
    formula_judged _ (written va vb vc vd) (words_spell va vb vc vd) (good_thresholds va vb vc vd)
    (good_names va vb vc vd ea eb ec ed)

-- one literal is a formula
pub one_spells : (v : List ℕ) → read_words (L.literal v ∷ []) ≡ Some (Who (Literal v))
unfolding read_words parts_at one_at list_at tail_at taken itself joined
one_spells v = refl

one_ok : (v : List ℕ) → is_bad v ≡ false
    → is_ok (licensees_by (licensing.judged_read [] (read_words (L.literal v ∷ [])))) ≡ true
one_ok v e = formula_judged _ (Who (Literal v)) (one_spells v) (bad_threshold_who (Literal v))
    (bad_name_who [] (Literal v) ∙ e)

-- the words of a program, and what they spell
abbrev program_words : List ℕ → List ℕ → List ℕ → List L.Word
program_words limit ve vl =
    L.sign (codes "@") ∷ L.name (codes "level") ∷ L.sign (codes ">") ∷ L.number limit ∷ L.sign (codes "->")
    ∷ L.literal ve ∷ L.sign (codes ";")
    ∷ L.name (codes "true") ∷ L.sign (codes "->") ∷ L.literal vl ∷ L.sign (codes ";") ∷ []

abbrev passes : ℕ → Expr
passes v = E.Compare Gt (E.Number (E.Name (codes "level"))) (E.Whole (pos v))

abbrev clauses_of : ℕ → List ℕ → List ℕ → List Clause
clauses_of v ve vl = (record { test = passes v; then = Value (E.Text ve) })
    ∷ (record { test = E.Truth true; then = Value (E.Text vl) }) ∷ []

abbrev alone : Unary → Sum
alone u = product (power (unary u))

abbrev test : Unary → Or
test u = ands (nots (cmp (sum (alone u))))

program_reads : (limit : List ℕ) (v : ℕ) (ve vl : List ℕ) → number_of limit ≡ Some v
    → read_program (program_words limit ve vl) ≡ Some (program_with (clauses_of v ve vl))
unfolding form_words entry_words clause_words or_words and_words not_words cmp_words sum_words product_words power_words
    unary_words atom_words program_clauses entry_clauses clause_tree or_parts and_parts not_tree cmp_tree sum_first
    sum_links product_first product_links power_first power_links unary_tree atom_tree trees.joined trees.chained
    truth_of
program_reads limit v ve vl e =
    form_read (goes_on
    (something (valued
    (ands (nots (cmp
    (compared (alone (signed Number (atom (name_atom (codes "level") refl)))) Gt
    (alone (atom (number_atom limit v e))))))) (test (atom (literal_atom ve)))))
    (goes_on (something (valued (test (atom (truth_atom (codes "true") true refl))) (test (atom (literal_atom vl)))))
    (ends nothing)))

well : (clauses : List Clause)
    → is_well_kinded (program_with clauses) ≡ list_all (λ right. right) (map is_clause_well_kinded clauses)
unfolding is_well_kinded is_clause_well_kinded
well clauses = fold-roll-Program Bool Bool Bool then_step clause_step program_step (record { clauses = clauses })

value_well : (v : List ℕ) → is_then_well_kinded (Value (E.Text v)) ≡ true
value_well v = is_then_well_kinded-Value (E.Text v) ∙ rw (kind_of-Text v) refl

clause_well : (test : Expr) (v : List ℕ) → kind_of test ≡ Some K.Truth
    → is_clause_well_kinded (record { test = test; then = Value (E.Text v) }) ≡ true
clause_well test v e = is_clause_well_kinded-parts (record { test = test; then = Value (E.Text v) })
    ∙ rw (e, value_well v) refl

passes_kind : (v : ℕ) → kind_of (passes v) ≡ Some K.Truth
passes_kind v =
    kind_of-Compare Gt (E.Number (E.Name (codes "level"))) (E.Whole (pos v))
    ∙ rw (kind_of-Number (E.Name (codes "level")), kind_of-Name (codes "level"), kind_of-Whole (pos v)) refl

program_well : (v : ℕ) (ve vl : List ℕ) → is_well_kinded (program_with (clauses_of v ve vl)) ≡ true
program_well v ve vl = well (clauses_of v ve vl)
    ∙ rw (clause_well (passes v) ve (passes_kind v), clause_well (E.Truth true) vl (kind_of-Truth true)) refl

program_judged : (read : Option Program) (program : Program) → read ≡ Some program → is_well_kinded program ≡ true
    → is_ok (conditions_by (conditions.judged_read read)) ≡ true
program_judged read program e f = rw (e, f) refl

program_ok : (limit : List ℕ) (v : ℕ) (ve vl : List ℕ) → number_of limit ≡ Some v
    → is_ok (conditions_by (conditions.judged_read (read_program (program_words limit ve vl)))) ≡ true
program_ok limit v ve vl e =
    program_judged _ (program_with (clauses_of v ve vl)) (program_reads limit v ve vl e) (program_well v ve vl)

module _ (i a b c d e : List ℕ) (t : ℕ) where
  abbrev cuts : Cuts
  cuts = credential_cuts i a b c d ((48 + t) ∷ []) e

  no_fault : fault_in (tokens_at start 0 cuts) ≡ None
  unfolding fault_in first_place fault_at fault_without version_place constant_place departure field_with fields_of
      field_of
  no_fault = refl

  authorizer_ok : IsNaming (quoted (112 ∷ i))
      → is_ok (authorizer_in (constants_in (field_with 6 (tokens_at start 0 cuts)))
      (of_field 1 (tokens_at start 0 cuts))) ≡ true
  unfolding field_with fields_of field_of goes_deep depth_behind run_behind authorizer_of principal_of
  authorizer_ok naming =
      named_ok (is_bad (literal_value (quoted (112 ∷ i)))) (normal_form (literal_value (quoted (112 ∷ i))))
      naming.not_bad

  licensees_ok : IsNaming (quoted (112 ∷ a)) → IsNaming (quoted (112 ∷ b)) → IsNaming (quoted (112 ∷ c))
      → IsNaming (quoted (112 ∷ d))
      → is_ok (licensees_in (constants_in (field_with 6 (tokens_at start 0 cuts)))
      (of_field 5 (tokens_at start 0 cuts))) ≡ true
  unfolding field_with fields_of field_of goes_deep depth_behind run_behind licensees_of L.words_of
  licensees_ok na nb nc nd =
      formula_ok (literal_value (quoted (112 ∷ a))) (literal_value (quoted (112 ∷ b)))
      (literal_value (quoted (112 ∷ c))) (literal_value (quoted (112 ∷ d))) na.not_bad nb.not_bad nc.not_bad
      nd.not_bad

  conditions_ok : IsDigit t → is_ok (conditions_in (of_field 3 (tokens_at start 0 cuts))) ≡ true
  unfolding field_with fields_of field_of goes_deep depth_behind run_behind program_of L.words_of
  conditions_ok digit =
      program_ok ((48 + t) ∷ []) digit.value (literal_value (quoted (118 ∷ e))) (literal_value (codes "\"v1\""))
      digit.valued

  fields_read : (text : List ℕ) → IsDigit t → IsNaming (quoted (112 ∷ i)) → IsNaming (quoted (112 ∷ a))
      → IsNaming (quoted (112 ∷ b)) → IsNaming (quoted (112 ∷ c)) → IsNaming (quoted (112 ∷ d))
      → is_some (result_ok (reading_with text (tokens_at start 0 cuts))) ≡ true
  unfolding reading_with stated_by field_with fields_of field_of
  fields_read text digit ni na nb nc nd =
      field_read (authorizer_in (constants_in (field_with 6 (tokens_at start 0 cuts)))
      (of_field 1 (tokens_at start 0 cuts))) _ _ _ (authorizer_ok ni)
      (λ x. field_read
      (licensees_in (constants_in (field_with 6 (tokens_at start 0 cuts))) (of_field 5 (tokens_at start 0 cuts))) _
      _ _ (licensees_ok na nb nc nd)
      (λ y. field_read (conditions_in (of_field 3 (tokens_at start 0 cuts))) _ _ _ (conditions_ok digit) (λ z. refl)))

  -- a credential reads, where its literals name principals
  pub credential_reads : (text : List ℕ) → text ≡ bytes_of cuts → AreCuts start cuts
      → nat_lt 16384 (length text) ≡ false → length cuts ≤ length text → IsDigit t
      → IsNaming (quoted (112 ∷ i)) → IsNaming (quoted (112 ∷ a)) → IsNaming (quoted (112 ∷ b))
      → IsNaming (quoted (112 ∷ c)) → IsNaming (quoted (112 ∷ d)) → IsSome (assertion_of text)
  credential_reads text is are short enough digit ni na nb nc nd =
      text_reads text (tokens_at start 0 cuts) short (text_tokens text cuts is are enough) no_fault
      (fields_read text digit ni na nb nc nd)

policy_fault : fault_in (tokens_at start 0 policy_cuts) ≡ None
unfolding fault_in first_place fault_at fault_without version_place constant_place departure field_with fields_of
    field_of
policy_fault = refl

policy_authorizer : IsNaming (quoted (codes "POLICY"))
    → is_ok (authorizer_in (constants_in (field_with 6 (tokens_at start 0 policy_cuts)))
    (of_field 1 (tokens_at start 0 policy_cuts))) ≡ true
unfolding field_with fields_of field_of goes_deep depth_behind run_behind authorizer_of principal_of
policy_authorizer naming =
    named_ok (is_bad (literal_value (quoted (codes "POLICY")))) (normal_form (literal_value (quoted (codes "POLICY"))))
    naming.not_bad

policy_licensees : IsNaming (quoted (codes "p0"))
    → is_ok (licensees_in (constants_in (field_with 6 (tokens_at start 0 policy_cuts)))
    (of_field 5 (tokens_at start 0 policy_cuts))) ≡ true
unfolding field_with fields_of field_of goes_deep depth_behind run_behind licensees_of L.words_of
policy_licensees naming = one_ok (literal_value (quoted (codes "p0"))) naming.not_bad

policy_fields : (text : List ℕ) → IsNaming (quoted (codes "POLICY")) → IsNaming (quoted (codes "p0"))
    → is_some (result_ok (reading_with text (tokens_at start 0 policy_cuts))) ≡ true
unfolding reading_with stated_by field_with fields_of field_of
policy_fields text policy first =
    field_read (authorizer_in (constants_in (field_with 6 (tokens_at start 0 policy_cuts)))
    (of_field 1 (tokens_at start 0 policy_cuts))) _ _ _ (policy_authorizer policy)
    (λ x. field_read
    (licensees_in (constants_in (field_with 6 (tokens_at start 0 policy_cuts)))
    (of_field 5 (tokens_at start 0 policy_cuts))) _ _ _ (policy_licensees first) (λ y. refl))

-- the policy's credential reads
pub policy_reads : (text : List ℕ) → text ≡ bytes_of policy_cuts → AreCuts start policy_cuts
    → nat_lt 16384 (length text) ≡ false → length policy_cuts ≤ length text
    → IsNaming (quoted (codes "POLICY")) → IsNaming (quoted (codes "p0")) → IsSome (assertion_of text)
policy_reads text is are short enough policy first =
    text_reads text (tokens_at start 0 policy_cuts) short (text_tokens text policy_cuts is are enough) policy_fault
    (policy_fields text policy first)
