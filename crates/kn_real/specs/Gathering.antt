-- Bytes that are gathered before they are written (keynoted's own).
use Rattle.std.specs.Prelude.{ℕ, List, take, Option}
use Rattle.std.specs.Io.KnownBytes.{Appends, append_known}

-- a front of these bytes was written to a writer, if it tells what it holds
abbrev pub AppendsFront : Option (List ℕ) → Option (List ℕ) → List ℕ → Type 0
AppendsFront old new bytes = (n : ℕ) × Appends old new (take n bytes)

-- what a writer holds, if it tells that, and what waits behind it grew by these bytes
abbrev pub AddsBehind : Option (List ℕ) → List ℕ → Option (List ℕ) → List ℕ → List ℕ → Type 0
AddsBehind old waiting new waiting' bytes = Appends (append_known old waiting) (append_known new waiting') bytes
