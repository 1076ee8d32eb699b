use Rattle.std.proofs.Common.{◌+◌, ◌*◌, ◌≤◌}
use Rattle.kn_program.proofs.Steps.{Clauses}
use Rattle.kn_program.proofs.clauses.+program.Given as goal

abbrev pub decreases-clauses : goal.decreases-clauses
decreases-clauses l = 2 * l.budget

abbrev pub decreases-entry : goal.decreases-entry
decreases-entry l = 2 * l.budget + 1

abbrev pub decreases-clause : goal.decreases-clause
decreases-clause l = 2 * l.budget

abbrev pub decreases-value : goal.decreases-value
decreases-value l = 2 * l.budget + 1

-- the clauses so far with those that are read from here on are all
abbrev pub invariant-clauses-loop-left : goal.invariant-clauses-loop-left
invariant-clauses-loop-left l =
    record { fewer : l.left ≤ l.budget; going : Clauses l.budget l.left l.list l.cursor l.fn.cursor }

abbrev pub decreases-clauses-loop-left : goal.decreases-clauses-loop-left
decreases-clauses-loop-left l = l.left
