use Rattle.std.proofs.Common.{◌≡◌, drop}
use Rattle.std.specs.List.{fold}
use Rattle.kn_files.specs.Lines.{after_byte}
use Rattle.kn_files.proofs.within.after_bytes.Given as goal

-- what is left decides
abbrev pub invariant-loop-byte : goal.invariant-loop-byte
invariant-loop-byte l = fold after_byte l.fn.within l.bytes ≡ fold after_byte l.within (drop l.byte-index l.bytes)
