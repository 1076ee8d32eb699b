-- What contracts say of an input: its bytes, where they are specified.
use Rattle.std.specs.Prelude.{ℕ, List, ◌++◌, Option, Some, None}

-- the specified bytes with these behind them
abbrev pub more : List ℕ → Option (List ℕ) → Option (List ℕ)
more bytes None = None
more bytes (Some known) = Some (known ++ bytes)

-- the specified bytes with these before them
abbrev pub before : List ℕ → Option (List ℕ) → Option (List ℕ)
before bytes None = None
before bytes (Some known) = Some (bytes ++ known)
