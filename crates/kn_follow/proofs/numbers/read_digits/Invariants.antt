use Rattle.std.proofs.Common.{◌≡◌, ◌≤◌, length}
use Rattle.kn_follow.specs.Reading.{digits_at}
use Rattle.kn_follow.proofs.numbers.read_digits.Given as goal

abbrev pub invariant-digits : goal.invariant-digits
invariant-digits l =
    (digits_at l.least l.most l.end l.number l.rest ≡ digits_at l.least l.most l.end l.fn.number l.text)
    × (l.number ≤ l.most)

abbrev pub decreases-digits : goal.decreases-digits
decreases-digits l = length l.rest
