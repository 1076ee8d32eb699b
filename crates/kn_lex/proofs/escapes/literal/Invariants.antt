use Rattle.std.proofs.Common.{◌≡◌, ◌≤◌, ◌-◌, ◌++◌, length, drop}
use Rattle.kn_lex.specs.Literal.{value_behind}
use Rattle.kn_lex.proofs.escapes.literal.Given as goal

abbrev pub invariant-loop-at : goal.invariant-loop-at
invariant-loop-at l =
    record {
      within : l.at ≤ length l.inside;
      value : l.value ++ value_behind 0 (drop l.at l.inside) ≡ value_behind 0 l.inside;
    }

abbrev pub decreases-loop-at : goal.decreases-loop-at
decreases-loop-at l = length l.inside - l.at
