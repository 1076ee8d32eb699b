-- Ranges of the bytes of a text.
use Rattle.std.specs.Prelude.{ℕ, List, take, drop}
use Rattle.kn_wire.specs.declared.byte_range.ByteRange.{ByteRange}

-- the bytes of a range
abbrev pub bytes_in : ByteRange → List ℕ → List ℕ
bytes_in range text = take range.len (drop range.start text)
