-- The value of a conditions program (RFC 2704, section 4, the Conditions field, and section 5), by its index among the
-- compliance values of the query.
use Rattle.std.specs.Prelude.{ℕ, ◌-◌, max, List, [], ◌∷◌, length, true, Option, Some, None}
use Rattle.std.specs.Option.{option_map_or}
use Rattle.kn_env.specs.Environment.{Environment}
use Rattle.kn_env.specs.Values.{index_of}
use Rattle.kn_trees.specs.declared.program.Program.{Program}
use Rattle.kn_trees.specs.declared.program.Clause.{Clause}
use Rattle.kn_trees.specs.declared.program.Then.{Then}
use Rattle.kn_trees.specs.declared.program.Then.TheOpen.{Program-F, Clause-F, Then-F}
use Rattle.kn_trees.specs.declared.program.Then.TheOpen.Then-F.{Top, Value, Block}
use Rattle.kn_trees.specs.declared.program.Then.TheFolds.{fold-Program, fold-Clause, fold-Then}
use Rattle.kn_cond.specs.Meaning.{Meaning, truth, text, meaning_of}

-- the highest compliance value
abbrev pub top_of : Environment → ℕ
top_of e = length e.asked.values - 1

-- the value that a text names, and the lowest where it is none
abbrev pub value_of : Environment → Meaning → ℕ
value_of e (text name) = option_map_or (λ index. index) (index_of name e.asked.values) 0
value_of e meaning = 0

-- a clause counts where its test is true; a fault isn't
abbrev pub where_true : Meaning → ℕ → ℕ
where_true (truth true) value = value
where_true meaning value = 0

abbrev pub then_step : Environment → Then-F ℕ ℕ ℕ → ℕ
then_step e Top = top_of e
then_step e (Value name) = value_of e (meaning_of e name)
then_step e (Block value) = value

abbrev pub clause_step : Environment → Clause-F ℕ ℕ ℕ → ℕ
clause_step e clause = where_true (meaning_of e clause.test) clause.then

-- the highest of these, and the lowest value where there is none
abbrev pub highest : List ℕ → ℕ
highest [] = 0
highest (value ∷ values) = max value (highest values)

abbrev pub program_step : Environment → Program-F ℕ ℕ ℕ → ℕ
program_step e program = highest program.clauses

-- the value of a program
unfoldable pub program_value : Environment → Program → ℕ
program_value e = fold-Program ℕ ℕ ℕ (then_step e) (clause_step e) (program_step e)

-- the value of a clause, and of what stands behind a test
unfoldable pub clause_value : Environment → Clause → ℕ
clause_value e = fold-Clause ℕ ℕ ℕ (then_step e) (clause_step e) (program_step e)

unfoldable pub then_value : Environment → Then → ℕ
then_value e = fold-Then ℕ ℕ ℕ (then_step e) (clause_step e) (program_step e)

-- the value of a Conditions field; a missing or empty one has the highest
abbrev pub field_value : Environment → Option Program → ℕ
field_value e None = top_of e
field_value e (Some program) = program_value e program
