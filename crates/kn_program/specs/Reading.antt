-- Reading a program from the front of a field's words: the bridge between the grammar and the code. The number bounds
-- the steps, of which twelve for each word and one more are enough.
use Rattle.std.specs.Prelude.{ℕ, zero, suc, pos, ◌+◌, ◌-◌, ◌*◌, Bool, true, false, ◌&&◌, List, [], ◌∷◌, ◌++◌, length}
use Rattle.std.specs.Prelude.{codes, Option, Some, None}
use Rattle.std.specs.Option.{is_none}
use Rattle.kn_fields.specs.Words.{Word, Mark}
use Rattle.kn_fields.specs.Words.Word.{literal, name, number}
use Rattle.kn_fields.specs.Reading.{Read, Reader, map_read, then_read, behind_sign, closed_by, more_at, tail_at}
use Rattle.kn_fields.specs.Reading.{list_at, one_part, whole, taken, read_mark}
use Rattle.kn_trees.specs.Forms.{link}
use Rattle.kn_trees.specs.declared.program.Expr.{Expr}
use Rattle.kn_trees.specs.declared.program.Expr.TheVariants as E
use Rattle.kn_trees.specs.declared.program.Link2.{Link2}
use Rattle.kn_trees.specs.declared.program.Operation.{Operation}
use Rattle.kn_trees.specs.declared.program.Program.{Program}
use Rattle.kn_trees.specs.declared.program.Clause.{Clause}
use Rattle.kn_trees.specs.declared.program.Then.{Then}
use Rattle.kn_trees.specs.declared.program.Then.TheVariants.{Top, Value, Block}
use Rattle.kn_program.specs.Signs.{joint_text, operation_of, comparison_of, prefix_of, truth_of, number_of}
use Rattle.kn_program.specs.Trees.{joined, chained, with_prefix}
use Rattle.kn_program.specs.Grammar.{program_with}
use Rattle.kn_program.specs.declared.signs.Joint.{Joint}
use Rattle.kn_program.specs.declared.signs.Joint.TheVariants.{Or, And}
use Rattle.kn_program.specs.declared.signs.Precedence.{Precedence}
use Rattle.kn_program.specs.declared.signs.Precedence.TheVariants.{Sum, Product, Power}

abbrev pub joined_parts : Joint → Expr → List Expr → Expr
joined_parts joint first parts = joined joint (first ∷ parts)

abbrev pub one_link : Operation → Expr → List Link2
one_link operation right = link operation right ∷ []

abbrev pub name_tree : Option Bool → List ℕ → Expr
name_tree None text = E.Name text
name_tree (Some value) text = E.Truth value

abbrev pub number_tree : Option ℕ → Option Expr
number_tree None = None
number_tree (Some value) = Some (E.Whole (pos value))

-- the expression of one word
abbrev pub constant_of : Word → Option Expr
constant_of (literal value) = Some (E.Text value)
constant_of (name text) = Some (name_tree (truth_of text) text)
constant_of (number digits) = number_tree (number_of digits)
constant_of word = None

abbrev pub atom_by : Option Expr → Word → List Word → Reader Expr → Read Expr
atom_by (Some found) word words tests = Some (found, words)
atom_by None word words tests =
    then_read (read_mark (codes "(") (word ∷ words)) (λ mark inner. then_read (tests inner) (closed_by (codes ")")))

-- one word, or an expression in brackets
abbrev pub atom_front : List Word → Reader Expr → Read Expr
atom_front [] tests = None
atom_front (word ∷ words) tests = atom_by (constant_of word) word words tests

unfoldable mutual
  pub tests_at : ℕ → Joint → Reader Expr
  tests_at zero joint words = None
  tests_at (suc n) Or words = list_at (read_mark (codes "||")) one_part (joined_parts Or) (tests_at n And) (suc n) words
  tests_at (suc n) And words =
      list_at (read_mark (codes "&&")) one_part (joined_parts And) (negation_at n) (suc n) words

  pub negation_at : ℕ → Reader Expr
  negation_at zero words = None
  negation_at (suc n) words =
      behind_sign (read_mark (codes "!") words) (comparison_at n words)
      (λ mark rest. map_read E.Not (negation_at n rest))

  pub comparison_at : ℕ → Reader Expr
  comparison_at zero words = None
  comparison_at (suc n) words =
      then_read (chain_at n Sum words) (λ left rest.
      behind_sign (taken comparison_of rest) (Some (left, rest)) (λ found behind.
      map_read (E.Compare found left) (chain_at n Sum behind)))

  pub chain_at : ℕ → Precedence → Reader Expr
  chain_at zero level words = None
  chain_at (suc n) Sum words = list_at (taken (operation_of Sum)) one_link chained (chain_at n Product) (suc n) words
  chain_at (suc n) Product words =
      list_at (taken (operation_of Product)) one_link chained (chain_at n Power) (suc n) words
  chain_at (suc n) Power words = list_at (taken (operation_of Power)) one_link chained (operand_at n) (suc n) words

  pub operand_at : ℕ → Reader Expr
  operand_at zero words = None
  operand_at (suc n) words =
      behind_sign (taken prefix_of words) (atom_at n words)
      (λ found rest. map_read (with_prefix found) (operand_at n rest))

  pub atom_at : ℕ → Reader Expr
  atom_at zero words = None
  atom_at (suc n) words = atom_front words (tests_at n Or)

-- an item of each list
abbrev pub test_at : ℕ → Joint → Reader Expr
test_at n Or words = tests_at n And words
test_at n And words = negation_at n words

abbrev pub side_at : ℕ → Precedence → Reader Expr
side_at n Sum words = chain_at n Product words
side_at n Product words = chain_at n Power words
side_at n Power words = operand_at n words

-- the tests with a first one that is read, and a joint behind it
abbrev pub more_tests_at : ℕ → Joint → Expr → Reader Expr
more_tests_at n joint first words =
    map_read (joined_parts joint first)
    (more_at one_part (test_at n joint) (tail_at (read_mark (joint_text joint)) one_part (test_at n joint) n) tt words)

-- the operations of a level with a first side that is read, and a sign behind it
abbrev pub more_links_at : ℕ → Precedence → Expr → Operation → Reader Expr
more_links_at n level first sign words =
    map_read (chained first)
    (more_at one_link (side_at n level) (tail_at (taken (operation_of level)) one_link (side_at n level) n) sign words)

-- the operations of a level behind a first side
abbrev pub links_at : ℕ → Precedence → Expr → Reader Expr
links_at n level first words =
    map_read (chained first) (tail_at (taken (operation_of level)) one_link (side_at (n - 1) level) n words)

-- those of a level and of the tighter ones behind a first operand
abbrev pub climb_at : ℕ → Precedence → Expr → Reader Expr
climb_at n Power first words = links_at n Power first words
climb_at n Product first words = then_read (links_at (n - 1) Power first words) (links_at n Product)
climb_at n Sum first words = then_read (then_read (links_at (n - 1 - 1) Power first words) (links_at (n - 1) Product))
    (links_at n Sum)

-- those of the tighter levels
abbrev pub first_at : ℕ → Precedence → Expr → Reader Expr
first_at n Sum first words = climb_at n Product first words
first_at n Product first words = climb_at n Power first words
first_at n Power first words = Some (first, words)

-- a clause stands here, and not the end of an empty one
abbrev pub has_clause : List Word → Bool
has_clause [] = false
has_clause (word ∷ words) = is_none (read_mark (codes ";") (word ∷ words))
    && is_none (read_mark (codes "}") (word ∷ words))

abbrev pub entry_by : Bool → Reader Clause → Reader (Option Clause)
entry_by false clause words = Some (None, words)
entry_by true clause words = map_read Some (clause words)

-- a clause, if there is one
abbrev pub entry_at : Reader Clause → Reader (Option Clause)
entry_at clause words = entry_by (has_clause words) clause words

abbrev pub entries_of : Option Clause → List Clause
entries_of None = []
entries_of (Some clause) = clause ∷ []

abbrev pub one_entry : Mark → Option Clause → List Clause
one_entry mark entry = entries_of entry

abbrev pub with_entry : Option Clause → List Clause → List Clause
with_entry entry clauses = entries_of entry ++ clauses

abbrev pub clause_with : Expr → Then → Clause
clause_with test value = record { test = test; then = value }

abbrev pub block : List Clause → Then
block clauses = Block (program_with clauses)

-- what stands behind `->`
abbrev pub value_after : List Word → Reader Expr → Reader (List Clause) → Read Then
value_after words tests program =
    behind_sign (read_mark (codes "{") words) (map_read Value (tests words)) (λ mark inner.
    map_read block (then_read (program inner) (closed_by (codes "}"))))

unfoldable mutual
  pub program_at : ℕ → Reader (List Clause)
  program_at zero words = None
  program_at (suc n) words = list_at (read_mark (codes ";")) one_entry with_entry (entry_at (clause_at n)) (suc n) words

  pub clause_at : ℕ → Reader Clause
  clause_at zero words = None
  clause_at (suc n) words =
      then_read (tests_at n Or words) (λ test rest.
      behind_sign (read_mark (codes "->") rest) (Some (clause_with test Top, rest)) (λ mark behind.
      map_read (clause_with test) (value_after behind (tests_at n Or) (program_at n))))

-- the program of all these words
unfoldable pub read_program : List Word → Option Program
read_program words = whole (map_read program_with (program_at (12 * length words + 1) words))
