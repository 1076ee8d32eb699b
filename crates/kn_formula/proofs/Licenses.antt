-- What the tokens of a field state is what is read of them.
use Rattle.std.proofs.Common.{◌≡◌, ℕ, ◌*◌, Bool, true, false, List, [], ◌∷◌, length, Option, Some, None, Result, Ok}
use Rattle.std.proofs.Common.{Err, ◌⊎◌, inl, inr, IfOk, IfErr, refl, sym, ap, subst, ◌∙◌, arith, append-nil}
use Rattle.std.specs.Prelude.{if◌then◌else◌}
use Rattle.kn_env.specs.declared.constant.Constant.{Constant}
use Rattle.kn_lex.specs.Cutting.{TokenView}
use Rattle.kn_fields.specs.Words.{Word, words_of}
use Rattle.kn_fields.proofs.Steps.{whole_read}
use Rattle.kn_trees.specs.declared.formula.Formula.{Formula}
use Rattle.kn_formula.specs.Trees.{has_bad_threshold, has_bad_name, formula_of}
use Rattle.kn_formula.specs.Grammar.{form_words, form_tree, Spells}
use Rattle.kn_formula.specs.Reading.{parts_at, read_words}
use Rattle.kn_formula.specs.Licensing.{AreLicensees, HasNoForm, Shows, check_formula, judged_read, licensees_of, Gives}
use Rattle.kn_formula.specs.declared.fault.FormulaFault.{FormulaFault}
use Rattle.kn_formula.specs.declared.fault.FormulaFault.TheVariants.{Syntax, Threshold, Name, NoMemory}
use Rattle.kn_formula.specs.declared.written.Rule.TheVariants.{Any}
use Rattle.kn_formula.specs.declared.written.Written.{Written}
use Rattle.kn_formula.proofs.Sound.{sound_form}
use Rattle.kn_formula.proofs.Complete.{complete_form, nil_stops, form_some}

-- what is read of all the words is spelled by them
pub read_spelled : (tokens : List TokenView) (written : Written) → read_words (words_of tokens) ≡ Some written
    → Spells tokens written
unfolding read_words
read_spelled tokens written e =
    let words : List Word = words_of tokens in
    let f = sound_form (3 * length words) words written []
    (whole_read (parts_at (3 * length words) Any words) written e) in
    record { form = f.form; words = sym (append-nil (form_words f.form)) ∙ f.spelled; tree = f.means }

-- what is spelled is read
pub spelled_read : (tokens : List TokenView) (written : Written) → Spells tokens written
    → read_words (words_of tokens) ≡ Some written
unfolding read_words
spelled_read tokens written s =
    let n : ℕ = 3 * length (form_words s.form) in
    let all = complete_form n s.form [] (omega arith) nil_stops in
    let same : parts_at n Any (form_words s.form) ≡ Some (form_tree s.form, []) = rw append-nil at all in
    rw (← s.words, same, s.tree) refl

-- tokens spell at most one formula
pub spelled_once : (tokens : List TokenView) (a b : Written) → Spells tokens a → Spells tokens b → a ≡ b
spelled_once tokens a b s t = let first = spelled_read tokens a s in let second = spelled_read tokens b t in cc

-- no tokens spell nothing
nothing_spelled : (written : Written) → Spells [] written → ⊥
unfolding words_of
nothing_spelled written s = let none : length (form_words s.form) ≡ 0 = ap length s.words in
    absurd (omega (arith, form_some s.form))

-- what is found of tokens, by what is spelled
of_spelled : (constants : List Constant) (tokens : List TokenView) (w : Written) → Spells tokens w
    → licensees_of constants tokens ≡ check_formula constants w
unfolding licensees_of
of_spelled constants [] w s = absurd (nothing_spelled w s)
of_spelled constants (token ∷ tokens) w s = ap (judged_read constants) (spelled_read (token ∷ tokens) w s)

-- the formula, if there is one, is what is found
pub formula_found : (constants : List Constant) (tokens : List TokenView) (f : Option Formula)
    → AreLicensees constants tokens f → licensees_of constants tokens ≡ Ok f
unfolding licensees_of
formula_found constants tokens None none = ap (licensees_of constants) none
formula_found constants tokens (Some formula) is =
    rw (of_spelled constants tokens is.written is.spelled, is.thresholds, is.names, is.means) refl

-- so is the fault
pub fault_found : (constants : List Constant) (tokens : List TokenView) (fault : FormulaFault)
    → Shows constants tokens fault
    → licensees_of constants tokens ≡ Err fault
unfolding licensees_of
fault_found constants tokens Syntax h = no_form constants tokens h
  where
    grammar_fault : (tokens : List TokenView) (read : Option Written) → read_words (words_of tokens) ≡ read
        → ((w : Written) → Spells tokens w → ⊥) → read ≡ None
    grammar_fault tokens None e none = refl
    grammar_fault tokens (Some w) e none = absurd (none w (read_spelled tokens w e))

    no_form : (constants : List Constant) (tokens : List TokenView) → HasNoForm tokens
        → licensees_of constants tokens ≡ Err Syntax
    no_form constants [] h = absurd (h.some refl)
    no_form constants (token ∷ tokens) h =
        ap (judged_read constants) (grammar_fault (token ∷ tokens) (read_words (words_of (token ∷ tokens))) refl h.none)
fault_found constants tokens Threshold h = rw (of_spelled constants tokens h.written h.spelled, h.bad) refl
fault_found constants tokens Name h = rw (of_spelled constants tokens h.written h.spelled, h.thresholds, h.bad) refl
fault_found constants tokens NoMemory h = absurd h

-- what a finding says of the tokens
abbrev Says : List Constant → List TokenView → Result (Option Formula) FormulaFault → Type 0
Says constants tokens (Ok formula) = AreLicensees constants tokens formula
Says constants tokens (Err fault) = Shows constants tokens fault

judged_says : (constants : List Constant) (tokens : List TokenView) (w : Written) → Spells tokens w → (t n : Bool)
    → has_bad_threshold w ≡ t → has_bad_name constants w ≡ n
    → Says constants tokens (if t then Err Threshold else if n then Err Name else Ok (Some (formula_of constants w)))
judged_says constants tokens w s true n t_is n_is = record { written = w; spelled = s; bad = t_is }
judged_says constants tokens w s false true t_is n_is =
    record { written = w; spelled = s; thresholds = t_is; bad = n_is }
judged_says constants tokens w s false false t_is n_is =
    record { written = w; spelled = s; thresholds = t_is; names = n_is; means = refl }

found_says : (constants : List Constant) (tokens : List TokenView)
    → Says constants tokens (licensees_of constants tokens)
unfolding licensees_of
found_says constants [] = refl
found_says constants (token ∷ tokens) = by (read_words (words_of (token ∷ tokens))) refl
  where
    by : (read : Option Written) → read_words (words_of (token ∷ tokens)) ≡ read
        → Says constants (token ∷ tokens) (judged_read constants read)
    by None none = record { some = λ e. cc; none = λ w s. cc (spelled_read (token ∷ tokens) w s) }
    by (Some w) some =
        judged_says constants (token ∷ tokens) w (read_spelled (token ∷ tokens) w some) (has_bad_threshold w)
        (has_bad_name constants w) refl refl

pub formula_stands : (constants : List Constant) (tokens : List TokenView) (f : Option Formula)
    → licensees_of constants tokens ≡ Ok f → AreLicensees constants tokens f
formula_stands constants tokens f e = subst (Says constants tokens) e (found_says constants tokens)

pub fault_stands : (constants : List Constant) (tokens : List TokenView) (fault : FormulaFault)
    → licensees_of constants tokens ≡ Err fault → Shows constants tokens fault
fault_stands constants tokens fault e = subst (Says constants tokens) e (found_says constants tokens)

-- what is given is stated by the tokens, and a fault is shown by them
pub given_stated : (constants : List Constant) (tokens : List TokenView) (r : Result (Option Formula) FormulaFault)
    → Gives r (licensees_of constants tokens)
    → IfOk r (λ formula. AreLicensees constants tokens formula)
given_stated constants tokens (Ok formula) h = formula_stands constants tokens formula h
given_stated constants tokens (Err fault) h = tt

pub given_shown : (constants : List Constant) (tokens : List TokenView) (r : Result (Option Formula) FormulaFault)
    → Gives r (licensees_of constants tokens)
    → IfErr r (λ fault. (fault ≡ NoMemory) ⊎ Shows constants tokens fault)
given_shown constants tokens (Ok formula) h = tt
given_shown constants tokens (Err NoMemory) h = inl refl
given_shown constants tokens (Err Syntax) h = inr (fault_stands constants tokens _ h)
given_shown constants tokens (Err Threshold) h = inr (fault_stands constants tokens _ h)
given_shown constants tokens (Err Name) h = inr (fault_stands constants tokens _ h)
