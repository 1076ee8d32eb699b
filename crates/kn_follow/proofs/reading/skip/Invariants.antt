use Rattle.std.proofs.Common.{◌≡◌, drop}
use Rattle.kn_follow.specs.Reading.{literal_at}
use Rattle.kn_follow.proofs.reading.skip.Given as goal

abbrev pub invariant-loop-byte : goal.invariant-loop-byte
invariant-loop-byte l = literal_at (drop l.byte-index l.literal) l.rest ≡ literal_at l.literal l.text
