-- Which expressions and programs join texts. The value of any other takes no memory.
use Rattle.std.specs.Prelude.{Bool, true, false, ◌||◌, Option, Some, None}
use Rattle.std.specs.List.{list_any}
use Rattle.kn_trees.specs.declared.program.Operation.{Operation}
use Rattle.kn_trees.specs.declared.program.Operation.TheVariants.{Join}
use Rattle.kn_trees.specs.declared.program.Link2.{Link2}
use Rattle.kn_trees.specs.declared.program.Expr.{Expr}
use Rattle.kn_trees.specs.declared.program.Expr.TheOpen.{Expr-F, Link2-F}
use Rattle.kn_trees.specs.declared.program.Expr.TheOpen.Expr-F.{Truth, Whole, Text, Name, Not, Minus, Number, Deref}
use Rattle.kn_trees.specs.declared.program.Expr.TheOpen.Expr-F.{And, Or, Compare, Chain}
use Rattle.kn_trees.specs.declared.program.Expr.TheFolds.{fold-Expr}
use Rattle.kn_trees.specs.declared.program.Program.{Program}
use Rattle.kn_trees.specs.declared.program.Clause.{Clause}
use Rattle.kn_trees.specs.declared.program.Then.{Then}
use Rattle.kn_trees.specs.declared.program.Then.TheOpen.{Program-F, Clause-F, Then-F}
use Rattle.kn_trees.specs.declared.program.Then.TheOpen.Then-F.{Top, Value, Block}
use Rattle.kn_trees.specs.declared.program.Then.TheFolds.{fold-Program, fold-Clause, fold-Then}

abbrev pub is_join : Operation → Bool
is_join Join = true
is_join sign = false

abbrev pub itself : Bool → Bool
itself b = b

abbrev pub joins_step : Expr-F Bool Bool → Bool
joins_step (Truth value) = false
joins_step (Whole value) = false
joins_step (Text value) = false
joins_step (Name name) = false
joins_step (Not part) = part
joins_step (Minus part) = part
joins_step (Number part) = part
joins_step (Deref part) = part
joins_step (And parts) = list_any itself parts
joins_step (Or parts) = list_any itself parts
joins_step (Compare sign left right) = left || right
joins_step (Chain first links) = first || list_any itself links

abbrev pub link_joins_step : Link2-F Bool Bool → Bool
link_joins_step link = is_join link.sign || link.right

-- somewhere in the expression is a `.`
unfoldable pub joins : Expr → Bool
joins = fold-Expr Bool Bool joins_step link_joins_step

abbrev pub link_joins : Link2 → Bool
link_joins link = is_join link.sign || joins link.right

abbrev pub then_joins_step : Then-F Bool Bool Bool → Bool
then_joins_step Top = false
then_joins_step (Value value) = joins value
then_joins_step (Block block) = block

abbrev pub clause_joins_step : Clause-F Bool Bool Bool → Bool
clause_joins_step clause = joins clause.test || clause.then

abbrev pub program_joins_step : Program-F Bool Bool Bool → Bool
program_joins_step program = list_any itself program.clauses

-- somewhere in the program is a `.`
unfoldable pub program_joins : Program → Bool
program_joins = fold-Program Bool Bool Bool then_joins_step clause_joins_step program_joins_step

unfoldable pub clause_joins : Clause → Bool
clause_joins = fold-Clause Bool Bool Bool then_joins_step clause_joins_step program_joins_step

unfoldable pub then_joins : Then → Bool
then_joins = fold-Then Bool Bool Bool then_joins_step clause_joins_step program_joins_step

abbrev pub field_joins : Option Program → Bool
field_joins None = false
field_joins (Some program) = program_joins program
