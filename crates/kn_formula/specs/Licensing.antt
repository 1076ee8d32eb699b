-- What the tokens of a Licensees field state (RFC 2704, section 4). The faults and their order are keynoted's own.
use Rattle.std.specs.Prelude.{◌≡◌, true, false, List, [], ◌∷◌, Option, Some, None, Result, Ok, Err, if◌then◌else◌}
use Rattle.kn_env.specs.declared.constant.Constant.{Constant}
use Rattle.kn_lex.specs.Cutting.{TokenView}
use Rattle.kn_trees.specs.declared.formula.Formula.{Formula}
use Rattle.kn_fields.specs.Words.{words_of}
use Rattle.kn_formula.specs.Trees.{has_bad_threshold, has_bad_name, formula_of}
use Rattle.kn_formula.specs.Grammar.{Spells}
use Rattle.kn_formula.specs.Reading.{read_words}
use Rattle.kn_fields.specs.declared.grammar_fault.GrammarFault.{GrammarFault}
use Rattle.kn_fields.specs.declared.grammar_fault.GrammarFault.TheVariants.{Syntax as grammar_Syntax}
use Rattle.kn_fields.specs.declared.grammar_fault.GrammarFault.TheVariants.{NoMemory as grammar_NoMemory}
use Rattle.kn_formula.specs.declared.written.Written.{Written}
use Rattle.kn_formula.specs.declared.fault.FormulaFault.{FormulaFault}
use Rattle.kn_formula.specs.declared.fault.FormulaFault.TheVariants.{Syntax, Threshold, Name, NoMemory}

-- the tokens spell a formula as it is written, of whose thresholds and principals none is bad, and this is it
pub record IsFormula (constants : List Constant) (tokens : List TokenView) (formula : Formula) : Type 0 where
  pub written : Written
  pub spelled : Spells tokens written
  pub thresholds : has_bad_threshold written ≡ false
  pub names : has_bad_name constants written ≡ false
  pub means : formula_of constants written ≡ formula

-- the tokens state this formula, or, being none, no formula
abbrev pub AreLicensees : List Constant → List TokenView → Option Formula → Type 0
AreLicensees constants tokens None = tokens ≡ []
AreLicensees constants tokens (Some formula) = IsFormula constants tokens formula

-- there are tokens, and they spell nothing
pub record HasNoForm (tokens : List TokenView) : Type 0 where
  pub some : tokens ≡ [] → ⊥
  pub none : (written : Written) → Spells tokens written → ⊥

-- the tokens spell a formula of which a threshold is bad
pub record HasBadThreshold (tokens : List TokenView) : Type 0 where
  pub written : Written
  pub spelled : Spells tokens written
  pub bad : has_bad_threshold written ≡ true

-- the tokens spell a formula of which no threshold, but a principal is bad
pub record HasBadName (constants : List Constant) (tokens : List TokenView) : Type 0 where
  pub written : Written
  pub spelled : Spells tokens written
  pub thresholds : has_bad_threshold written ≡ false
  pub bad : has_bad_name constants written ≡ true

-- the tokens show this fault first
abbrev pub Shows : List Constant → List TokenView → FormulaFault → Type 0
Shows constants tokens Syntax = HasNoForm tokens
Shows constants tokens Threshold = HasBadThreshold tokens
Shows constants tokens Name = HasBadName constants tokens
Shows constants tokens NoMemory = ⊥

abbrev pub check_names : List Constant → Written → Result (Option Formula) FormulaFault
check_names constants written =
    if has_bad_name constants written then Err Name else Ok (Some (formula_of constants written))

abbrev pub check_formula : List Constant → Written → Result (Option Formula) FormulaFault
check_formula constants written = if has_bad_threshold written then Err Threshold else check_names constants written

abbrev pub judged_read : List Constant → Option Written → Result (Option Formula) FormulaFault
judged_read constants None = Err Syntax
judged_read constants (Some written) = check_formula constants written

-- the formula of these tokens, or its first fault
unfoldable pub licensees_of : List Constant → List TokenView → Result (Option Formula) FormulaFault
licensees_of constants [] = Ok None
licensees_of constants (token ∷ tokens) = judged_read constants (read_words (words_of (token ∷ tokens)))

-- this is given, or memory ran out
abbrev pub Gives : {X : Type 0} → Result X FormulaFault → Result X FormulaFault → Type 0
Gives (Ok x) read = read ≡ Ok x
Gives (Err NoMemory) read = Unit {0}
Gives (Err fault) read = read ≡ Err fault

abbrev pub of_grammar_fault : GrammarFault → FormulaFault
of_grammar_fault grammar_Syntax = Syntax
of_grammar_fault grammar_NoMemory = NoMemory
