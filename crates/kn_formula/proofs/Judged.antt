-- What the code gives of a field is what its tokens state.
use Rattle.std.proofs.Common.{◌≡◌, true, false, List, [], ◌∷◌, length, Option, Some, None, Result, Ok, Err, refl, sym}
use Rattle.std.proofs.Common.{ap, subst, ◌∙◌, arith}
use Rattle.kn_env.specs.declared.constant.Constant.{Constant}
use Rattle.kn_lex.specs.Cutting.{TokenView}
use Rattle.kn_fields.specs.Words.{Word, words_of}
use Rattle.kn_fields.specs.Reading.{ReadsWhole}
use Rattle.kn_fields.specs.declared.grammar_fault.GrammarFault.{GrammarFault}
use Rattle.kn_fields.specs.declared.grammar_fault.GrammarFault.TheVariants.{Syntax as grammar_Syntax}
use Rattle.kn_fields.specs.declared.grammar_fault.GrammarFault.TheVariants.{NoMemory as grammar_NoMemory}
use Rattle.kn_trees.specs.declared.formula.Formula.{Formula}
use Rattle.kn_formula.specs.Trees.{has_bad_threshold}
use Rattle.kn_formula.specs.Reading.{read_words}
use Rattle.kn_formula.specs.Naming.{Names}
use Rattle.kn_formula.specs.Licensing.{judged_read, licensees_of, Gives, of_grammar_fault}
use Rattle.kn_formula.specs.declared.fault.FormulaFault.{FormulaFault}
use Rattle.kn_formula.specs.declared.fault.FormulaFault.TheVariants.{Threshold, Name, NoMemory}
use Rattle.kn_formula.specs.declared.written.Written.{Written}

-- a field without tokens
pub nothing_given : (constants : List Constant) (tokens : List TokenView) (words : List Word) → words ≡ words_of tokens
    → length words ≡ 0 → licensees_of constants tokens ≡ Ok None
unfolding licensees_of words_of
nothing_given constants [] words is none = refl
nothing_given constants (token ∷ tokens) words is none = let size = ap length is in absurd (omega (arith, size, none))

-- a field with tokens is judged by what is read of them
pub judged_by : (constants : List Constant) (tokens : List TokenView) (words : List Word) → words ≡ words_of tokens
    → (length words ≡ 0 → ⊥) → licensees_of constants tokens ≡ judged_read constants (read_words words)
unfolding licensees_of words_of
judged_by constants [] words is some = absurd (some (ap length is))
judged_by constants (token ∷ tokens) words is some = ap (λ words. judged_read constants (read_words words)) (sym is)

pub grammar_fault_given : (constants : List Constant) (found : Result (Option Formula) FormulaFault)
    (read : Option Written)
    (grammar_fault : GrammarFault) (fault : FormulaFault) → found ≡ judged_read constants read
    → ReadsWhole {X = Written} (Err grammar_fault) read → fault ≡ of_grammar_fault grammar_fault
    → Gives {X = Option Formula} (Err fault) found
grammar_fault_given constants found read grammar_Syntax fault judged none is =
    subst (λ fault. Gives {X = Option Formula} (Err fault) found) (sym is) (judged ∙ ap (judged_read constants) none)
grammar_fault_given constants found read grammar_NoMemory fault judged none is =
    subst (λ fault. Gives {X = Option Formula} (Err fault) found) (sym is) tt

pub threshold_given : (constants : List Constant) (found : Result (Option Formula) FormulaFault) (read : Option Written)
    (written : Written) → found ≡ judged_read constants read → read ≡ Some written
    → has_bad_threshold written ≡ true → found ≡ Err Threshold
threshold_given constants found read written judged is bad = rw (judged, is, bad) refl

pub formula_given : (constants : List Constant) (found : Result (Option Formula) FormulaFault) (read : Option Written)
    (written : Written) (formula : Formula) → found ≡ judged_read constants read → read ≡ Some written
    → has_bad_threshold written ≡ false → Names constants written (Ok formula) → found ≡ Ok (Some formula)
formula_given constants found read written formula judged is sound names = rw (judged, is, sound, names.0, names.1) refl

pub fault_given : (constants : List Constant) (found : Result (Option Formula) FormulaFault) (read : Option Written)
    (written : Written) (fault : FormulaFault) → found ≡ judged_read constants read → read ≡ Some written
    → has_bad_threshold written ≡ false → Names constants written (Err fault)
    → Gives {X = Option Formula} (Err fault) found
fault_given constants found read written Name judged is sound names = rw (judged, is, sound, names) refl
fault_given constants found read written NoMemory judged is sound names = tt
fault_given constants found read written _ judged is sound names = absurd names
