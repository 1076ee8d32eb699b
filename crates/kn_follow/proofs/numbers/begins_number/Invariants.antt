use Rattle.std.proofs.Common.{◌≡◌, ◌-◌}
use Rattle.kn_follow.specs.Reading.{begins_number}
use Rattle.kn_follow.proofs.numbers.begins_number.Given as goal

abbrev pub invariant-loop : goal.invariant-loop
invariant-loop l = begins_number (8 - l.counter) l.least l.most l.number ≡ begins_number 8 l.fn.least l.fn.most l.number
