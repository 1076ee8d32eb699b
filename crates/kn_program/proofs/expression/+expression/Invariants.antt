use Rattle.std.proofs.Common.{◌≡◌, ◌+◌, ◌*◌, ◌≤◌, ◌<◌, length}
use Rattle.kn_program.specs.Reading.{more_tests_at, more_links_at}
use Rattle.kn_program.proofs.Stacks.{PartsStand, RightsStand}
use Rattle.kn_program.proofs.expression.+expression.Given as goal

abbrev pub decreases-tests : goal.decreases-tests
decreases-tests l = 5 * l.budget

abbrev pub decreases-test : goal.decreases-test
decreases-test l = 5 * l.budget + 1

abbrev pub decreases-more_tests : goal.decreases-more_tests
decreases-more_tests l = 5 * l.budget + 2

abbrev pub decreases-negation : goal.decreases-negation
decreases-negation l = 5 * l.budget

abbrev pub decreases-denial : goal.decreases-denial
decreases-denial l = 5 * l.budget + 1

abbrev pub decreases-comparison : goal.decreases-comparison
decreases-comparison l = 5 * l.budget

abbrev pub decreases-chain : goal.decreases-chain
decreases-chain l = 5 * l.budget + 2

abbrev pub decreases-climb : goal.decreases-climb
decreases-climb l = 5 * l.budget + 1

abbrev pub decreases-operations : goal.decreases-operations
decreases-operations l = 5 * l.budget

abbrev pub decreases-first_side : goal.decreases-first_side
decreases-first_side l = 5 * l.budget + 2

abbrev pub decreases-links : goal.decreases-links
decreases-links l = 5 * l.budget + 4

abbrev pub decreases-side : goal.decreases-side
decreases-side l = 5 * l.budget + 3

abbrev pub decreases-operand : goal.decreases-operand
decreases-operand l = 5 * l.budget

abbrev pub decreases-signed_operand : goal.decreases-signed_operand
decreases-signed_operand l = 5 * l.budget + 1

abbrev pub decreases-atom : goal.decreases-atom
decreases-atom l = 5 * l.budget

-- the parts so far, on top of what stood below the first, with those that are read from here on are all
abbrev pub invariant-more_tests-loop-left : goal.invariant-more_tests-loop-left
invariant-more_tests-loop-left l = record {
  counted : l.count + l.left ≡ l.budget + 1;
  some : 1 ≤ l.count;
  there : l.count ≤ length l.stack;
  going : PartsStand l.joint l.budget l.left l.count l.fn.stack l.stack l.cursor
      (λ first. more_tests_at l.budget l.joint first l.fn.cursor);
}

abbrev pub decreases-more_tests-loop-left : goal.decreases-more_tests-loop-left
decreases-more_tests-loop-left l = l.left

-- so with the right sides of the operations
abbrev pub invariant-links-loop-left : goal.invariant-links-loop-left
invariant-links-loop-left l = record {
  there : length l.signs < length l.stack;
  going : RightsStand l.level l.budget l.left l.sign l.signs l.fn.stack l.stack l.cursor
      (λ first. more_links_at l.budget l.level first l.fn.sign l.fn.cursor);
}

abbrev pub decreases-links-loop-left : goal.decreases-links-loop-left
decreases-links-loop-left l = l.left
