use Rattle.std.proofs.Common.{◌≡◌, ◌+◌, ◌-◌, ℕ, length, get_or}
use Rattle.kn_system.proofs.last_uses.widen.Given as goal

abbrev pub invariant-loop-last : goal.invariant-loop-last
invariant-loop-last l = (p : ℕ) → get_or l.last.items p 0 ≡ get_or l.fn.last.items p 0

abbrev pub decreases-loop-last : goal.decreases-loop-last
decreases-loop-last l = l.place + 1 - length l.last.items
