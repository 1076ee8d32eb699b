-- What the code puts on its stack of expressions, the last of which is on top.
use Rattle.std.specs.Prelude.{◌≡◌, Bool, List, [], ◌∷◌, ◌++◌, Some, None, Result, Ok, Err}
use Rattle.std.specs.Option.{is_some, option_to_list}
use Rattle.kn_fields.specs.Words.{Word}
use Rattle.kn_fields.specs.Reading.{Read}
use Rattle.kn_fields.specs.declared.grammar_fault.GrammarFault.{GrammarFault}
use Rattle.kn_fields.specs.declared.grammar_fault.GrammarFault.TheVariants.{Syntax, NoMemory}
use Rattle.kn_trees.specs.declared.program.Expr.{Expr}
use Rattle.kn_program.specs.Reading.{constant_of}

-- An expression that is read, on top of what stood on the stack.
pub record Stands (wanted : Read Expr) (below stack : List Expr) (rest : List Word) : Type 0 where
  pub read : Expr
  pub is : wanted ≡ Some (read, rest)
  pub top : stack ≡ below ++ read ∷ []

-- what the code answers to such a reading: the expression on top of those below, and the words that are left
abbrev pub Puts : Result Unit GrammarFault → Read Expr → List Expr → List Expr → List Word → Type 0
Puts (Ok _) wanted below stack rest = Stands wanted below stack rest
Puts (Err Syntax) wanted below stack rest = wanted ≡ None
Puts (Err NoMemory) wanted below stack rest = Unit {0}

-- the same where the reading goes on from the topmost expression: what is read takes its place
abbrev pub PutsBehind : Result Unit GrammarFault → (Expr → Read Expr) → List Expr → List Expr → List Word → Type 0
PutsBehind result wanted old stack rest =
    (below : List Expr) (first : Expr) → old ≡ below ++ first ∷ [] → Puts result (wanted first) below stack rest

-- what the code answers to one word: whether it spells an expression, which is then on top of those below
abbrev pub PutsWord : Result Bool GrammarFault → Word → List Expr → List Expr → Type 0
PutsWord (Ok put) word below stack = (put ≡ is_some (constant_of word))
    × (stack ≡ below ++ option_to_list (constant_of word))
PutsWord (Err Syntax) word below stack = ⊥
PutsWord (Err NoMemory) word below stack = Unit {0}
