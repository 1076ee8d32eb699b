-- What the fields of an assertion state, each by its own tokens (RFC 2704, section 4). What isn't said there is
-- keynoted's own choice: that an Authorizer is one principal and a Signature one literal, which principals there
-- are, and the faults.
use Rattle.std.specs.Prelude.{ℕ, ◌≡◌, ◌⊎◌, Bool, ◌||◌, List, [], ◌∷◌, Option, Some, None, Result, Ok, Err, ok_or}
use Rattle.std.specs.Prelude.{if◌then◌else◌}
use Rattle.kn_env.specs.declared.constant.Constant.{Constant}
use Rattle.kn_lex.specs.Cutting.{TokenView}
use Rattle.kn_lex.specs.Literal.{literal_value}
use Rattle.kn_lex.specs.declared.token.Sort.{Sort}
use Rattle.kn_lex.specs.declared.token.Sort.TheVariants.{Name as NameSort, Text}
use Rattle.kn_fields.specs.Constants.{is_name_sort, is_text_sort}
use Rattle.kn_trees.specs.declared.formula.Formula.{Formula}
use Rattle.kn_trees.specs.declared.program.Program.{Program}
use Rattle.kn_formula.specs.Trees.{principal_text, is_bad_text, normal_text}
use Rattle.kn_formula.specs.declared.written.Principal.TheVariants.{Literal as Quoted, Name as Unquoted}
use Rattle.kn_formula.specs.declared.fault.FormulaFault.{FormulaFault}
use Rattle.kn_formula.specs.declared.fault.FormulaFault.TheVariants.{Syntax as NoFormula, Threshold as WrongThreshold}
use Rattle.kn_formula.specs.declared.fault.FormulaFault.TheVariants.{Name as NoName, NoMemory as NoFormulaMemory}
use Rattle.kn_program.specs.declared.fault.ProgramFault.{ProgramFault}
use Rattle.kn_program.specs.declared.fault.ProgramFault.TheVariants.{Syntax as NoProgram, Kind as WrongKind}
use Rattle.kn_program.specs.declared.fault.ProgramFault.TheVariants.{NoMemory as NoProgramMemory}
use Rattle.kn_fields.specs.declared.fault.ReadFault.{ReadFault}
use Rattle.kn_fields.specs.declared.fault.ReadFault.TheVariants.{Syntax, Kind, Threshold, Name, NoMemory}

-- this is given, or memory ran out
abbrev pub Gives : {X : Type 0} → Result X ReadFault → Result X ReadFault → Type 0
Gives (Ok x) read = read ≡ Ok x
Gives (Err fault) read = (fault ≡ NoMemory) ⊎ (read ≡ Err fault)

abbrev pub text_by : List Constant → Sort → List ℕ → Option (List ℕ)
text_by constants NameSort bytes = principal_text constants (Unquoted bytes)
text_by constants Text bytes = principal_text constants (Quoted (literal_value bytes))
text_by constants sort bytes = None

-- the principal of a text in normal form, unless it is a bad text for one
abbrev pub normal_in : Option (List ℕ) → Option (List ℕ)
normal_in text = if is_bad_text text then None else Some (normal_text text)

-- the principal that a token states, in normal form
unfoldable pub principal_of : List Constant → TokenView → Option (List ℕ)
principal_of constants token = normal_in (text_by constants token.sort token.text)

-- the token is a name or a literal
abbrev pub is_principal_token : TokenView → Bool
is_principal_token token = is_name_sort token.sort || is_text_sort token.sort

-- the one token, where there is one alone
abbrev pub only_of : List TokenView → Option TokenView
only_of (token ∷ []) = Some token
only_of tokens = None

-- what is read of the one token of the field of this number, where it passes a test
abbrev pub one_by : {X : Type 0} → ℕ → (TokenView → Bool) → (TokenView → Result X ReadFault) → Option TokenView
    → Result X ReadFault
one_by number test read None = Err (Syntax number)
one_by number test read (Some token) = if test token then read token else Err (Syntax number)

abbrev pub authorizer_by : List Constant → Option TokenView → Result (List ℕ) ReadFault
authorizer_by constants token = one_by 1 is_principal_token (λ t. ok_or (principal_of constants t) (Name 1)) token

-- the principal of an Authorizer field
unfoldable pub authorizer_of : List Constant → List TokenView → Result (List ℕ) ReadFault
authorizer_of constants tokens = authorizer_by constants (only_of tokens)

-- the fault of a program as one of the text; a program's reading is never `NoMemory`
abbrev pub program_fault : ProgramFault → ReadFault
program_fault NoProgram = Syntax 3
program_fault WrongKind = Kind 3
program_fault NoProgramMemory = NoMemory

abbrev pub conditions_by : Result (Option Program) ProgramFault → Result (Option Program) ReadFault
conditions_by (Ok conditions) = Ok conditions
conditions_by (Err fault) = Err (program_fault fault)

-- the fault of a formula as one of the text; a formula's reading is never `NoMemory`
abbrev pub formula_fault : FormulaFault → ReadFault
formula_fault NoFormula = Syntax 5
formula_fault WrongThreshold = Threshold 5
formula_fault NoName = Name 5
formula_fault NoFormulaMemory = NoMemory

abbrev pub licensees_by : Result (Option Formula) FormulaFault → Result (Option Formula) ReadFault
licensees_by (Ok licensees) = Ok licensees
licensees_by (Err fault) = Err (formula_fault fault)

abbrev pub signature_by : Option TokenView → Result (Option (List ℕ)) ReadFault
signature_by token = one_by 7 (λ t. is_text_sort t.sort) (λ t. Ok (Some (literal_value t.text))) token

-- the value of a Signature field
unfoldable pub signature_of : List TokenView → Result (Option (List ℕ)) ReadFault
signature_of tokens = signature_by (only_of tokens)
