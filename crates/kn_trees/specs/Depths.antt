-- How many levels expressions and programs have. Each value of their types is one level: one without parts is the only
-- one, and every other is one above the deepest of its parts. So a link of a chain is a level, and so are a program,
-- each of its clauses, and what that is worth. A walk that goes from a value into its parts is no deeper than this.
use Rattle.std.specs.Prelude.{ℕ, ◌+◌, max}
use Rattle.kn_trees.specs.Formulas.{greatest_of}
use Rattle.kn_trees.specs.declared.program.Expr.{Expr}
use Rattle.kn_trees.specs.declared.program.Expr.TheOpen.{Expr-F, Link2-F}
use Rattle.kn_trees.specs.declared.program.Expr.TheOpen.Expr-F.{Truth, Whole, Text, Name, Not, Minus, Number, Deref}
use Rattle.kn_trees.specs.declared.program.Expr.TheOpen.Expr-F.{And, Or, Compare, Chain}
use Rattle.kn_trees.specs.declared.program.Expr.TheFolds.{fold-Expr}
use Rattle.kn_trees.specs.declared.program.Program.{Program}
use Rattle.kn_trees.specs.declared.program.Clause.{Clause}
use Rattle.kn_trees.specs.declared.program.Then.{Then}
use Rattle.kn_trees.specs.declared.program.Then.TheOpen.{Program-F, Clause-F, Then-F}
use Rattle.kn_trees.specs.declared.program.Then.TheOpen.Then-F.{Top, Value, Block}
use Rattle.kn_trees.specs.declared.program.Then.TheFolds.{fold-Program, fold-Clause, fold-Then}

abbrev pub expr_depth_step : Expr-F ℕ ℕ → ℕ
expr_depth_step (Truth value) = 1
expr_depth_step (Whole value) = 1
expr_depth_step (Text value) = 1
expr_depth_step (Name name) = 1
expr_depth_step (Not part) = 1 + part
expr_depth_step (Minus part) = 1 + part
expr_depth_step (Number part) = 1 + part
expr_depth_step (Deref part) = 1 + part
expr_depth_step (And parts) = 1 + greatest_of parts
expr_depth_step (Or parts) = 1 + greatest_of parts
expr_depth_step (Compare sign left right) = 1 + max left right
expr_depth_step (Chain first links) = 1 + max first (greatest_of links)

abbrev pub link_depth_step : Link2-F ℕ ℕ → ℕ
link_depth_step link = 1 + link.right

unfoldable pub expr_depth : Expr → ℕ
expr_depth = fold-Expr ℕ ℕ expr_depth_step link_depth_step

abbrev pub program_depth_step : Program-F ℕ ℕ ℕ → ℕ
program_depth_step program = 1 + greatest_of program.clauses

abbrev pub clause_depth_step : Clause-F ℕ ℕ ℕ → ℕ
clause_depth_step clause = 1 + max (expr_depth clause.test) clause.then

abbrev pub then_depth_step : Then-F ℕ ℕ ℕ → ℕ
then_depth_step Top = 1
then_depth_step (Value value) = 1 + expr_depth value
then_depth_step (Block block) = 1 + block

unfoldable pub program_depth : Program → ℕ
program_depth = fold-Program ℕ ℕ ℕ then_depth_step clause_depth_step program_depth_step

unfoldable pub clause_depth : Clause → ℕ
clause_depth = fold-Clause ℕ ℕ ℕ then_depth_step clause_depth_step program_depth_step

unfoldable pub then_depth : Then → ℕ
then_depth = fold-Then ℕ ℕ ℕ then_depth_step clause_depth_step program_depth_step
