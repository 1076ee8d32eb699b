use Rattle.std.proofs.Common.{◌≡◌, ◌-◌}
use Rattle.kn_follow.specs.InCode.{updates_of}
use Rattle.kn_follow.specs.Reading.{update_at, times}
use Rattle.kn_follow.proofs.Loops.{with_front}
use Rattle.kn_follow.proofs.reading.read_updates.Given as goal

abbrev pub invariant-loop : goal.invariant-loop
invariant-loop l = with_front (updates_of l.updates) (times update_at (l.count - l.counter) l.rest)
    ≡ times update_at l.count l.text
