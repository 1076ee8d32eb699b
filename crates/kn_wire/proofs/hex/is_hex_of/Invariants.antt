use Rattle.std.proofs.Common.{◌≡◌, ◌&&◌, drop}
use Rattle.std.specs.Str.{bytes_eq}
use Rattle.kn_wire.specs.Hex.{bytes_of_hex}
use Rattle.kn_wire.proofs.hex.is_hex_of.Given as goal

abbrev pub invariant-loop-byte : goal.invariant-loop-byte
invariant-loop-byte l = bytes_eq (bytes_of_hex l.digits) l.bytes
    ≡ (l.same && bytes_eq (bytes_of_hex l.rest) (drop l.byte-index l.bytes))
