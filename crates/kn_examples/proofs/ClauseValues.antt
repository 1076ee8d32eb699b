-- The value of a program by those of its clauses.
use Rattle.std.proofs.Common.{◌≡◌, ℕ, List, map}
use Rattle.kn_trees.specs.declared.program.Clause.{Clause}
use Rattle.kn_trees.specs.declared.program.Then.TheFolds.{fold-roll-Program}
use Rattle.kn_program.specs.Grammar.{program_with}
use Rattle.kn_env.specs.Environment.{Environment}
use Rattle.kn_cond.specs.Programs.{program_value, clause_value, highest, then_step, clause_step, program_step}

pub program_clauses_value : (e : Environment) (clauses : List Clause)
    → program_value e (program_with clauses) ≡ highest (map (clause_value e) clauses)
unfolding program_value clause_value
program_clauses_value e clauses =
    fold-roll-Program ℕ ℕ ℕ (then_step e) (clause_step e) (program_step e) (record { clauses = clauses })
