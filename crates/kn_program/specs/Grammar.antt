-- Which tokens spell which program (RFC 2704, section 4, the Conditions field). The levels, and the grouping to the
-- left, are keynoted's own choices.
use Rattle.std.specs.Prelude.{◌≡◌, ℕ, pos, Bool, true, List, [], ◌∷◌, ◌++◌, codes, Some, None}
use Rattle.kn_lex.specs.Cutting.{TokenView}
use Rattle.kn_fields.specs.Words.{Word, words_of}
use Rattle.kn_fields.specs.Words.Word.{literal as literal_word, name as name_word, number as number_word}
use Rattle.kn_fields.specs.Words.Word.{sign as sign_word}
use Rattle.kn_trees.specs.Forms.{link}
use Rattle.kn_trees.specs.declared.program.Expr.{Expr}
use Rattle.kn_trees.specs.declared.program.Expr.TheVariants as E
use Rattle.kn_trees.specs.declared.program.Link2.{Link2}
use Rattle.kn_trees.specs.declared.program.Comparison.{Comparison}
use Rattle.kn_trees.specs.declared.program.Operation.{Operation}
use Rattle.kn_trees.specs.declared.program.Program.{Program as ProgramTree, roll-Program}
use Rattle.kn_trees.specs.declared.program.Clause.{Clause as ClauseTree}
use Rattle.kn_trees.specs.declared.program.Then.TheVariants.{Top, Value, Block}
use Rattle.kn_program.specs.Signs.{operation_text, comparison_text, prefix_text, is_at, truth_of, number_of}
use Rattle.kn_program.specs.Trees.{joined, chained, with_prefix}
use Rattle.kn_program.specs.declared.signs.Joint.TheVariants as joint
use Rattle.kn_program.specs.declared.signs.Precedence.TheVariants as level
use Rattle.kn_program.specs.declared.signs.Prefix.{Prefix}

-- A derivation of an expression: a constructor for each line of the grammar.
mutual
  -- Or: And, or And || Or
  pub data Or : Type 0 where
    ands : And → Or
    either : And → Or → Or

  -- And: Not, or Not && And
  pub data And : Type 0 where
    nots : Not → And
    each : Not → And → And

  -- Not: Cmp, or ! Not
  pub data Not : Type 0 where
    cmp : Cmp → Not
    negated : Not → Not

  -- Cmp: Sum, or Sum sign Sum, the sign one of == != < > <= >=
  pub data Cmp : Type 0 where
    sum : Sum → Cmp
    compared : Sum → Comparison → Sum → Cmp

  -- Sum: Product, or Product sign Sum, the sign one of + - .
  pub data Sum : Type 0 where
    product : Product → Sum
    added : Product → (sign : Operation) → is_at level.Sum sign ≡ true → Sum → Sum

  -- Product: Power, or Power sign Product, the sign one of * / %
  pub data Product : Type 0 where
    power : Power → Product
    multiplied : Power → (sign : Operation) → is_at level.Product sign ≡ true → Product → Product

  -- Power: Unary, or Unary sign Power, the sign ^
  pub data Power : Type 0 where
    unary : Unary → Power
    raised : Unary → (sign : Operation) → is_at level.Power sign ≡ true → Power → Power

  -- Unary: Atom, or sign Unary, the sign one of - @ $
  pub data Unary : Type 0 where
    atom : Atom → Unary
    signed : Prefix → Unary → Unary

  -- Atom: ( Or ), or a literal, or a number by its digits, or a truth value by its name, or another name
  pub data Atom : Type 0 where
    group : Or → Atom
    literal : List ℕ → Atom
    number : (digits : List ℕ) → (value : ℕ) → number_of digits ≡ Some value → Atom
    truth : (text : List ℕ) → (value : Bool) → truth_of text ≡ Some value → Atom
    name : (text : List ℕ) → truth_of text ≡ None → Atom

-- its tokens
unfoldable mutual
  pub or_words : Or → List Word
  or_words (ands a) = and_words a
  or_words (either a o) = and_words a ++ sign_word (codes "||") ∷ or_words o

  pub and_words : And → List Word
  and_words (nots n) = not_words n
  and_words (each n a) = not_words n ++ sign_word (codes "&&") ∷ and_words a

  pub not_words : Not → List Word
  not_words (cmp c) = cmp_words c
  not_words (negated n) = sign_word (codes "!") ∷ not_words n

  pub cmp_words : Cmp → List Word
  cmp_words (sum s) = sum_words s
  cmp_words (compared s sign t) = sum_words s ++ sign_word (comparison_text sign) ∷ sum_words t

  pub sum_words : Sum → List Word
  sum_words (product p) = product_words p
  sum_words (added p sign is s) = product_words p ++ sign_word (operation_text sign) ∷ sum_words s

  pub product_words : Product → List Word
  product_words (power p) = power_words p
  product_words (multiplied p sign is q) = power_words p ++ sign_word (operation_text sign) ∷ product_words q

  pub power_words : Power → List Word
  power_words (unary u) = unary_words u
  power_words (raised u sign is p) = unary_words u ++ sign_word (operation_text sign) ∷ power_words p

  pub unary_words : Unary → List Word
  unary_words (atom a) = atom_words a
  unary_words (signed sign u) = sign_word (prefix_text sign) ∷ unary_words u

  pub atom_words : Atom → List Word
  atom_words (group o) = sign_word (codes "(") ∷ or_words o ++ sign_word (codes ")") ∷ []
  atom_words (literal value) = literal_word value ∷ []
  atom_words (number digits value is) = number_word digits ∷ []
  atom_words (truth text value is) = name_word text ∷ []
  atom_words (name text is) = name_word text ∷ []

-- its tree: a chain by its first part and what stands behind that
unfoldable mutual
  pub or_parts : Or → List Expr
  or_parts (ands a) = joined joint.And (and_parts a) ∷ []
  or_parts (either a o) = joined joint.And (and_parts a) ∷ or_parts o

  pub and_parts : And → List Expr
  and_parts (nots n) = not_tree n ∷ []
  and_parts (each n a) = not_tree n ∷ and_parts a

  pub not_tree : Not → Expr
  not_tree (cmp c) = cmp_tree c
  not_tree (negated n) = E.Not (not_tree n)

  pub cmp_tree : Cmp → Expr
  cmp_tree (sum s) = chained (sum_first s) (sum_links s)
  cmp_tree (compared s sign t) =
      E.Compare sign (chained (sum_first s) (sum_links s)) (chained (sum_first t) (sum_links t))

  pub sum_first : Sum → Expr
  sum_first (product p) = chained (product_first p) (product_links p)
  sum_first (added p sign is s) = chained (product_first p) (product_links p)

  pub sum_links : Sum → List Link2
  sum_links (product p) = []
  sum_links (added p sign is s) = link sign (sum_first s) ∷ sum_links s

  pub product_first : Product → Expr
  product_first (power p) = chained (power_first p) (power_links p)
  product_first (multiplied p sign is q) = chained (power_first p) (power_links p)

  pub product_links : Product → List Link2
  product_links (power p) = []
  product_links (multiplied p sign is q) = link sign (product_first q) ∷ product_links q

  pub power_first : Power → Expr
  power_first (unary u) = unary_tree u
  power_first (raised u sign is p) = unary_tree u

  pub power_links : Power → List Link2
  power_links (unary u) = []
  power_links (raised u sign is p) = link sign (power_first p) ∷ power_links p

  pub unary_tree : Unary → Expr
  unary_tree (atom a) = atom_tree a
  unary_tree (signed sign u) = with_prefix sign (unary_tree u)

  pub atom_tree : Atom → Expr
  atom_tree (group o) = joined joint.Or (or_parts o)
  atom_tree (literal value) = E.Text value
  atom_tree (number digits value is) = E.Whole (pos value)
  atom_tree (truth text value is) = E.Truth value
  atom_tree (name text is) = E.Name text

abbrev pub or_tree : Or → Expr
or_tree o = joined joint.Or (or_parts o)

-- A derivation of a program.
mutual
  -- Program: Clause?, or Clause? ; Program
  pub data Program : Type 0 where
    ends : Entry → Program
    goes_on : Entry → Program → Program

  -- Clause?
  pub data Entry : Type 0 where
    nothing : Entry
    something : Clause → Entry

  -- Clause: Or, or Or -> Or, or Or -> { Program }
  pub data Clause : Type 0 where
    bare : Or → Clause
    valued : Or → Or → Clause
    nested : Or → Program → Clause

unfoldable mutual
  pub program_words : Program → List Word
  program_words (ends e) = entry_words e
  program_words (goes_on e p) = entry_words e ++ sign_word (codes ";") ∷ program_words p

  pub entry_words : Entry → List Word
  entry_words nothing = []
  entry_words (something c) = clause_words c

  pub clause_words : Clause → List Word
  clause_words (bare test) = or_words test
  clause_words (valued test value) = or_words test ++ sign_word (codes "->") ∷ or_words value
  clause_words (nested test p) =
      or_words test ++ (sign_word (codes "->") ∷ sign_word (codes "{")
      ∷ (program_words p ++ sign_word (codes "}") ∷ []))

abbrev pub program_with : List ClauseTree → ProgramTree
program_with clauses = roll-Program (record { clauses = clauses })

-- empty clauses leave nothing
unfoldable mutual
  pub program_clauses : Program → List ClauseTree
  program_clauses (ends e) = entry_clauses e
  program_clauses (goes_on e p) = entry_clauses e ++ program_clauses p

  pub entry_clauses : Entry → List ClauseTree
  entry_clauses nothing = []
  entry_clauses (something c) = clause_tree c ∷ []

  pub clause_tree : Clause → ClauseTree
  clause_tree (bare test) = record { test = or_tree test; then = Top }
  clause_tree (valued test value) = record { test = or_tree test; then = Value (or_tree value) }
  clause_tree (nested test p) = record { test = or_tree test; then = Block (program_with (program_clauses p)) }

abbrev pub program_tree : Program → ProgramTree
program_tree p = program_with (program_clauses p)

-- the tokens spell the program
pub record IsProgram (tokens : List TokenView) (program : ProgramTree) : Type 0 where
  pub form : Program
  pub words : program_words form ≡ words_of tokens
  pub tree : program_tree form ≡ program
