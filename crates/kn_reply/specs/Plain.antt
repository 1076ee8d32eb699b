-- Bytes of a principal that stand for themselves between quotes.
use Rattle.std.specs.Prelude.{ℕ, Bool, ◌==◌, ◌&&◌, not, nat_lt}

abbrev pub is_plain : ℕ → Bool
is_plain b = not (b == 34) && not (b == 92) && not (nat_lt b 32) && not (nat_lt 126 b)
