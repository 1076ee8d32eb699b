-- What the tokens of a Conditions field state (RFC 2704, section 4). The faults and their order are keynoted's own.
use Rattle.std.specs.Prelude.{◌≡◌, true, false, List, [], ◌∷◌, Option, Some, None, Result, Ok, Err, if◌then◌else◌}
use Rattle.kn_lex.specs.Cutting.{TokenView}
use Rattle.kn_fields.specs.Words.{words_of}
use Rattle.kn_trees.specs.Kinds.{is_well_kinded}
use Rattle.kn_trees.specs.declared.program.Program.{Program}
use Rattle.kn_program.specs.Grammar.{IsProgram}
use Rattle.kn_program.specs.Reading.{read_program}
use Rattle.kn_fields.specs.declared.grammar_fault.GrammarFault.{GrammarFault}
use Rattle.kn_fields.specs.declared.grammar_fault.GrammarFault.TheVariants.{Syntax as grammar_Syntax}
use Rattle.kn_fields.specs.declared.grammar_fault.GrammarFault.TheVariants.{NoMemory as grammar_NoMemory}
use Rattle.kn_program.specs.declared.fault.ProgramFault.{ProgramFault}
use Rattle.kn_program.specs.declared.fault.ProgramFault.TheVariants.{Syntax, Kind, NoMemory}

-- there are tokens, and they spell this program, which is well kinded
pub record States (tokens : List TokenView) (program : Program) : Type 0 where
  pub some : tokens ≡ [] → ⊥
  pub spelled : IsProgram tokens program
  pub kinds : is_well_kinded program ≡ true

-- the tokens state this program, or, being none, no program
abbrev pub IsConditions : List TokenView → Option Program → Type 0
IsConditions tokens None = tokens ≡ []
IsConditions tokens (Some program) = States tokens program

-- there are tokens, and they spell nothing
pub record HasNoProgram (tokens : List TokenView) : Type 0 where
  pub some : tokens ≡ [] → ⊥
  pub none : (program : Program) → IsProgram tokens program → ⊥

-- there are tokens, and they spell a program that isn't well kinded
pub record HasBadKinds (tokens : List TokenView) : Type 0 where
  pub some : tokens ≡ [] → ⊥
  pub program : Program
  pub spelled : IsProgram tokens program
  pub bad : is_well_kinded program ≡ false

-- the tokens show this fault first
abbrev pub Shows : List TokenView → ProgramFault → Type 0
Shows tokens Syntax = HasNoProgram tokens
Shows tokens Kind = HasBadKinds tokens
Shows tokens NoMemory = ⊥

abbrev pub check_program : Program → Result (Option Program) ProgramFault
check_program program = if is_well_kinded program then Ok (Some program) else Err Kind

abbrev pub judged_read : Option Program → Result (Option Program) ProgramFault
judged_read None = Err Syntax
judged_read (Some program) = check_program program

-- the program of these tokens, or its first fault
unfoldable pub program_of : List TokenView → Result (Option Program) ProgramFault
program_of [] = Ok None
program_of (token ∷ tokens) = judged_read (read_program (words_of (token ∷ tokens)))

-- this is given, or memory ran out
abbrev pub Gives : {X : Type 0} → Result X ProgramFault → Result X ProgramFault → Type 0
Gives (Ok x) read = read ≡ Ok x
Gives (Err NoMemory) read = Unit {0}
Gives (Err fault) read = read ≡ Err fault

abbrev pub of_grammar_fault : GrammarFault → ProgramFault
of_grammar_fault grammar_Syntax = Syntax
of_grammar_fault grammar_NoMemory = NoMemory
