-- The value of a program, by the values of its parts.
use Rattle.std.proofs.Common.{◌≡◌, ℕ, map}
use Rattle.kn_env.specs.Environment.{Environment}
use Rattle.kn_trees.specs.declared.program.Expr.{Expr}
use Rattle.kn_trees.specs.declared.program.Program.{Program, out-Program}
use Rattle.kn_trees.specs.declared.program.Clause.{Clause}
use Rattle.kn_trees.specs.declared.program.Then.TheVariants.{Top, Value, Block}
use Rattle.kn_trees.proofs.Folds.{fold-Top, fold-Value, fold-Block, fold-one_clause, fold-whole_program}
use Rattle.kn_cond.specs.Meaning.{meaning_of}
use Rattle.kn_cond.specs.Programs.{top_of, value_of, where_true, highest, then_step, clause_step, program_step}
use Rattle.kn_cond.specs.Programs.{then_value, clause_value, program_value}

pub then_value-Top : (e : Environment) → then_value e Top ≡ top_of e
unfolding then_value
then_value-Top e = fold-Top ℕ ℕ ℕ (then_step e) (clause_step e) (program_step e)

pub then_value-Value : (e : Environment) (name : Expr) → then_value e (Value name) ≡ value_of e (meaning_of e name)
unfolding then_value
then_value-Value e name = fold-Value ℕ ℕ ℕ (then_step e) (clause_step e) (program_step e) name

pub then_value-Block : (e : Environment) (block : Program) → then_value e (Block block) ≡ program_value e block
unfolding then_value program_value
then_value-Block e block = fold-Block ℕ ℕ ℕ (then_step e) (clause_step e) (program_step e) block

pub clause_value-parts : (e : Environment) (clause : Clause)
    → clause_value e clause ≡ where_true (meaning_of e clause.test) (then_value e clause.then)
unfolding then_value clause_value
clause_value-parts e clause = fold-one_clause ℕ ℕ ℕ (then_step e) (clause_step e) (program_step e) clause

pub program_value-clauses : (e : Environment) (program : Program)
    → program_value e program ≡ highest (map (clause_value e) (out-Program program).clauses)
unfolding clause_value program_value
program_value-clauses e program = fold-whole_program ℕ ℕ ℕ (then_step e) (clause_step e) (program_step e) program

pub ruleset values = (then_value-Top, then_value-Value, then_value-Block, clause_value-parts, program_value-clauses)
