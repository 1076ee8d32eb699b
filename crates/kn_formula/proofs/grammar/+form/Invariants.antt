use Rattle.std.proofs.Common.{◌≡◌, ◌+◌, ◌*◌, []}
use Rattle.kn_formula.specs.Reading.{more_parts_at}
use Rattle.kn_formula.proofs.Steps.{Parts}
use Rattle.kn_formula.proofs.grammar.+form.Given as goal

abbrev pub decreases-parts : goal.decreases-parts
decreases-parts l = 3 * l.budget

abbrev pub decreases-more_parts : goal.decreases-more_parts
decreases-more_parts l = 3 * l.budget + 2

abbrev pub decreases-item : goal.decreases-item
decreases-item l = 3 * l.budget + 1

abbrev pub decreases-one : goal.decreases-one
decreases-one l = 3 * l.budget

abbrev pub decreases-read_brackets : goal.decreases-read_brackets
decreases-read_brackets l = 3 * l.budget + 1

-- the parts so far with those that are read from here on are all
abbrev pub invariant-more_parts-loop-left : goal.invariant-more_parts-loop-left
invariant-more_parts-loop-left l =
    record {
      some : l.parts ≡ []
          → ⊥;
      going : Parts l.rule l.budget l.left l.parts l.cursor (more_parts_at l.budget l.rule l.fn.first l.fn.cursor);
    }

abbrev pub decreases-more_parts-loop-left : goal.decreases-more_parts-loop-left
decreases-more_parts-loop-left l = l.left
