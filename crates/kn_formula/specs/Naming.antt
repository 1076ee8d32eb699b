-- What the code gives of a formula's principals.
use Rattle.std.specs.Prelude.{ℕ, ◌≡◌, true, false, List, Option, Result, Ok, Err}
use Rattle.kn_env.specs.declared.constant.Constant.{Constant}
use Rattle.kn_trees.specs.declared.formula.Formula.{Formula}
use Rattle.kn_formula.specs.Trees.{is_bad_text, normal_text, has_bad_name, formula_of}
use Rattle.kn_formula.specs.declared.fault.FormulaFault.{FormulaFault}
use Rattle.kn_formula.specs.declared.fault.FormulaFault.TheVariants.{Syntax, Threshold, Name, NoMemory}
use Rattle.kn_formula.specs.declared.written.Written.{Written}

-- the normal form of a principal of this text is given, or its fault
abbrev pub NamesText : Option (List ℕ) → Result (List ℕ) FormulaFault → Type 0
NamesText text (Ok form) = (is_bad_text text ≡ false) × (form ≡ normal_text text)
NamesText text (Err Syntax) = ⊥
NamesText text (Err Threshold) = ⊥
NamesText text (Err Name) = is_bad_text text ≡ true
NamesText text (Err NoMemory) = Unit {0}

-- the formula is given, or the fault of its principals
abbrev pub Names : List Constant → Written → Result Formula FormulaFault → Type 0
Names constants written (Ok formula) = (has_bad_name constants written ≡ false)
    × (formula ≡ formula_of constants written)
Names constants written (Err Syntax) = ⊥
Names constants written (Err Threshold) = ⊥
Names constants written (Err Name) = has_bad_name constants written ≡ true
Names constants written (Err NoMemory) = Unit {0}
