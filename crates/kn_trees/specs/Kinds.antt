-- The kinds of programs (keynoted's own statement of the typing that RFC 2704, section 4, asks of conditions), with
-- those of expressions.
use Rattle.std.specs.Prelude.{Bool, true, ◌&&◌}
use Rattle.std.specs.List.{list_all}
use Rattle.kn_trees.specs.declared.program.Program.{Program}
use Rattle.kn_trees.specs.declared.program.Clause.{Clause}
use Rattle.kn_trees.specs.declared.program.Then.{Then}
use Rattle.kn_trees.specs.declared.program.Then.TheOpen.{Program-F, Clause-F, Then-F}
use Rattle.kn_trees.specs.declared.program.Then.TheOpen.Then-F.{Top, Value, Block}
use Rattle.kn_trees.specs.declared.program.Then.TheFolds.{fold-Program, fold-Clause, fold-Then}
pub use Rattle.kn_trees.specs.ExprKinds.{is_truth, is_whole, is_text, are_compared, gives, operation_kind, chain_kind}
pub use Rattle.kn_trees.specs.ExprKinds.{kind_step, link_step, kind_of}

abbrev pub program_step : Program-F Bool Bool Bool → Bool
program_step program = list_all (λ right. right) program.clauses

abbrev pub clause_step : Clause-F Bool Bool Bool → Bool
clause_step clause = is_truth (kind_of clause.test) && clause.then

abbrev pub then_step : Then-F Bool Bool Bool → Bool
then_step Top = true
then_step (Value value) = is_text (kind_of value)
then_step (Block right) = right

-- each test of a program is a truth, and each value a text
unfoldable pub is_well_kinded : Program → Bool
is_well_kinded = fold-Program Bool Bool Bool then_step clause_step program_step

unfoldable pub is_clause_well_kinded : Clause → Bool
is_clause_well_kinded = fold-Clause Bool Bool Bool then_step clause_step program_step

unfoldable pub is_then_well_kinded : Then → Bool
is_then_well_kinded = fold-Then Bool Bool Bool then_step clause_step program_step
