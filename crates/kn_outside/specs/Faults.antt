-- Counts of faults.
use Rattle.std.specs.Prelude.{ℕ, ◌+◌, ◌-◌, ◌^◌, ◌≤◌, min}

-- a count that goes up by one, as far as u64 goes
abbrev pub count_up : ℕ → ℕ
count_up count = min (count + 1) (2 ^ 64 - 1)

-- a count of faults rose, or it stands at the greatest u64, where counters stay
abbrev pub Rose : ℕ → ℕ → Type 0
Rose old new = count_up old ≤ new
