-- Counts of steps, which stay at the greatest u64.
use Rattle.std.specs.Prelude.{ℕ, ◌+◌, ◌-◌, ◌<◌, ◌≤◌, ◌^◌, min}

-- a count that hasn't fallen, and at most so many steps were taken
abbrev pub IsWithin : ℕ → ℕ → ℕ → Type 0
IsWithin most old new = old < 2 ^ 64 → (old ≤ new) × (new ≤ min (old + most) (2 ^ 64 - 1))
